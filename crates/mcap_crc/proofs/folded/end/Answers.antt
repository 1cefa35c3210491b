use Rattle.std.proofs.Common.{sym}
use Rattle.mcap_crc.proofs.Folding.{one_by_one}
use Rattle.mcap_crc.proofs.folded.end.Goals as goal

pub returns : goal.returns
returns c =
    let b = c.args.blocks in
    rw (c.after_block.ensures, c.after_block-register-4.ensures, c.after_block-register-3.ensures, c.after_block-register-2.ensures, c.after_block-register.ensures)
    (sym (one_by_one b.first b.second b.third b.fourth b.fifth))
