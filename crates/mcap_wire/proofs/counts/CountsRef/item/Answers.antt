use Rattle.std.proofs.Common.{◌≡◌, List, ℕ, length, ap, sym, ◌∙◌, arith}
use Rattle.mcap_wire.proofs.ArrayPlaceLemmas.{length-counts_of}
use Rattle.mcap_wire.proofs.counts.CountsRef.item.Goals as goal

pub count_at-requires-clause-index : goal.count_at-requires-clause-index
count_at-requires-clause-index c =
    let size : c.self.inside.count ≡ length c.args.self.now = sym (length-counts_of c.self.inside.place c.self.inside.count c.self.invariant) ∙ ap (λ (entries : List (ℕ × ℕ)). length entries) c.self.view_is in
    omega (arith, size, c.requires)
