use Rattle.std.proofs.Common.{◌<◌, ℕ}
use Rattle.mcap_model.specs.Places.{At}
use Rattle.index_check.specs.Chunks.{IsNotedAt}
use Rattle.index_check.proofs.chunk_indexes.are_noted.Given as goal

abbrev pub invariant-names : goal.invariant-names
invariant-names l = (k : ℕ) (name : ℕ × ℕ) → At l.map k name → k < l.i → IsNotedAt l.notes name.0 name.1
