use Rattle.std.proofs.Common.{◌≡◌, ◌<◌, ℕ}
use Rattle.mcap_model.specs.Places.{At}
use Rattle.index_check.proofs.tally.has_count.Given as goal

abbrev pub invariant-counts : goal.invariant-counts
invariant-counts l = (k : ℕ) (entry : ℕ × ℕ) → At l.counts k entry → k < l.i → (entry.0 ≡ l.channel) × (entry.1 ≡ l.count) → ⊥
