use Rattle.std.proofs.Common.{sym}
use Rattle.mcap_crc.proofs.Blocks.{word_parts}
use Rattle.mcap_crc.proofs.sliced.after_word.Goals as goal

pub returns : goal.returns
returns c =
    rw (c.entry.ensures, c.entry-2.ensures, c.entry-3.ensures, c.entry-4.ensures) (sym (word_parts c.args.table c.args.word))
