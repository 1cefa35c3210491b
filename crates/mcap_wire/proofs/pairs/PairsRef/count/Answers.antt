use Rattle.std.proofs.Common.{List, ℕ, length, ap, sym, ◌∙◌}
use Rattle.mcap_wire.proofs.PlaceLemmas.{length-pairs_of}
use Rattle.mcap_wire.proofs.pairs.PairsRef.count.Goals as goal

pub returns-clause-count : goal.returns-clause-count
returns-clause-count c =
    sym (length-pairs_of c.self.inside.place c.self.inside.count c.self.invariant) ∙ ap (λ (pairs : List (List ℕ × List ℕ)). length pairs) c.self.view_is
