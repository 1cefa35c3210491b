use Rattle.std.proofs.Common.{◌≡◌, ◌<◌, ℕ}
use Rattle.mcap_model.specs.Places.{At}
use Rattle.index_check.proofs.chunk_indexes.is_named.Given as goal

abbrev pub invariant-names : goal.invariant-names
invariant-names l = (k : ℕ) (name : ℕ × ℕ) → At l.map k name → k < l.i → (name.0 ≡ l.channel) × (name.1 ≡ l.offset) → ⊥
