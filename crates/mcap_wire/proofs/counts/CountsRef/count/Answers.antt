use Rattle.std.proofs.Common.{List, ℕ, length, ap, sym, ◌∙◌}
use Rattle.mcap_wire.proofs.ArrayPlaceLemmas.{length-counts_of}
use Rattle.mcap_wire.proofs.counts.CountsRef.count.Goals as goal

pub returns-clause-count : goal.returns-clause-count
returns-clause-count c =
    sym (length-counts_of c.self.inside.place c.self.inside.count c.self.invariant) ∙ ap (λ (entries : List (ℕ × ℕ)). length entries) c.self.view_is
