use Rattle.std.proofs.Common.{List, ℕ, length, ap, sym, ◌∙◌}
use Rattle.mcap_wire.proofs.ArrayPlaceLemmas.{length-entries_of}
use Rattle.mcap_wire.proofs.arrays.EntriesRef.count.Goals as goal

pub returns : goal.returns
returns c =
    sym (length-entries_of c.self.inside.place c.self.inside.count c.self.invariant) ∙ ap (λ (entries : List (ℕ × ℕ)). length entries) c.self.view_is
