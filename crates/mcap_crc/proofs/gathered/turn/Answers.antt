use Rattle.std.proofs.Common.{ℕ, ◌∙◌, ap, refl, sym, take, drop}
use Rattle.mcap_crc.specs.Register.{shifted_by, register_after}
use Rattle.mcap_crc.specs.Gather.{pending}
use Rattle.mcap_crc.proofs.Gathering.{turned_none, turned_whole, four_pieces}
use Rattle.mcap_crc.proofs.gathered.turn.Goals as goal

pub take_in-requires-3-clause-middle_is : goal.take_in-requires-3-clause-middle_is
take_in-requires-3-clause-middle_is c = refl

pub returns : goal.returns
returns c register stands =
    let block = c.args.block.now in
    let r1 : ℕ = register_after register (take 1160 block) in
    let r2 : ℕ = register_after r1 (take 304 (drop 1160 block)) in
    let r3 : ℕ = register_after r2 (take 224 (drop 1464 block)) in
    ap pending (sym (turned_whole c.take_in-4.new.window c.take_in-4.array_long))
    ∙ c.take_in-4.ensures r3 (c.take_in-3.ensures r2 (c.take_in-2.ensures r1 (c.take_in.ensures register (ap pending (turned_none c.args.window.now) ∙ stands))))
    ∙ ap (shifted_by 19200) (four_pieces register block c.told-block)
