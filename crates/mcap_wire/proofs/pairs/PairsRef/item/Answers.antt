use Rattle.std.proofs.Common.{◌≡◌, List, length, ap, sym, ◌∙◌, arith}
use Rattle.mcap_wire.proofs.TextMaps.{Pair}
use Rattle.mcap_wire.proofs.PlaceLemmas.{length-pairs_of}
use Rattle.mcap_wire.proofs.pairs.PairsRef.item.Goals as goal

pub pair_at-requires-clause-index : goal.pair_at-requires-clause-index
pair_at-requires-clause-index c =
    let size : c.self.inside.count ≡ length c.args.self.now = sym (length-pairs_of c.self.inside.place c.self.inside.count c.self.invariant) ∙ ap (λ (pairs : List Pair). length pairs) c.self.view_is in
    omega (arith, size, c.requires)
