use Rattle.std.proofs.Common.{◌≡◌, List, ℕ, length, ap, sym, ◌∙◌, arith}
use Rattle.mcap_wire.proofs.ArrayPlaceLemmas.{length-entries_of}
use Rattle.mcap_wire.proofs.arrays.EntriesRef.item.Goals as goal

pub entry_at-requires-clause-index : goal.entry_at-requires-clause-index
entry_at-requires-clause-index c =
    let size : c.self.inside.count ≡ length c.args.self.now = sym (length-entries_of c.self.inside.place c.self.inside.count c.self.invariant) ∙ ap (λ (entries : List (ℕ × ℕ)). length entries) c.self.view_is in
    omega (arith, size, c.requires)
