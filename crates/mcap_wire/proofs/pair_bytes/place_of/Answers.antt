use Rattle.mcap_wire.specs.PairBytes.{pairs_in}
use Rattle.mcap_wire.proofs.PairWalks.{above_answers, above_is_new}
use Rattle.mcap_wire.proofs.pair_bytes.place_of.Goals as goal

pub returns-then-gt : goal.returns-then-gt
returns-then-gt c =
    above_is_new (pairs_in c.args.count c.args.bytes.now) c.args.largest.now c.args.key.now c.requires.order (above_answers c.args.key.now c.args.largest.now _ c.if-gt.ensures)
