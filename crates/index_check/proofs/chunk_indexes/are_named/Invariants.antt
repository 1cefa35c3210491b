use Rattle.std.proofs.Common.{◌<◌, ℕ}
use Rattle.mcap_model.specs.Places.{At}
use Rattle.index_check.specs.declared.chunk_indexes.IndexNote.{IndexNote}
use Rattle.index_check.specs.Chunks.{IsNamedOrEmpty}
use Rattle.index_check.proofs.chunk_indexes.are_named.Given as goal

abbrev pub invariant-notes : goal.invariant-notes
invariant-notes l = (k : ℕ) (note : IndexNote) → At l.notes k note → k < l.i → IsNamedOrEmpty l.map note
