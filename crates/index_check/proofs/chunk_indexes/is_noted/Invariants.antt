use Rattle.std.proofs.Common.{◌<◌, ℕ}
use Rattle.mcap_model.specs.Places.{At}
use Rattle.index_check.specs.declared.chunk_indexes.IndexNote.{IndexNote}
use Rattle.index_check.specs.Chunks.{IsNoteAt}
use Rattle.index_check.proofs.chunk_indexes.is_noted.Given as goal

abbrev pub invariant-notes : goal.invariant-notes
invariant-notes l = (k : ℕ) (note : IndexNote) → At l.notes k note → k < l.i → IsNoteAt note l.channel l.offset → ⊥
