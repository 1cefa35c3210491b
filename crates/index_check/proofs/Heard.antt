-- Whether a chunk that was kept holds a Message.
use Rattle.std.proofs.Common.{◌≡◌, ℕ, true, List, Some, None, sym, ◌∙◌}
use Rattle.std.specs.Prelude.{◌↔◌}
use Rattle.mcap_model.specs.Places.{At}
use Rattle.mcap_model.specs.Tops.{Top, inner_tops}
use Rattle.mcap_model.specs.Whole.{offset_of}
use Rattle.index_check.specs.declared.chunk_indexes.ChunkNote.{ChunkNote}
use Rattle.index_check.specs.declared.chunk_indexes.Chunks.{Chunks}
use Rattle.index_check.specs.Chunks.{HasMessage, NotesChunk, ChunksOf}
use Rattle.index_check.specs.Spots.{FindsSpot}

module _ (tops : List Top) (kept : Chunks) (of : ChunksOf tops kept) (n : ℕ) (t : Top) (at : At tops n t) (kind : t.op ≡ 6) (offset : ℕ) (there : offset ≡ offset_of tops n) where
  pub found : FindsSpot kept.spots offset None → ⊥
  found none =
      let spots = of.spots in
      let s = spots.covers n t at kind in
      none s.0 s.1 s.2 (s.3 ∙ sym there)

  pub noted : (place : ℕ) → FindsSpot kept.spots offset (Some place) → (note : ChunkNote) → At kept.notes.items place note → (note.messages ≡ true) ↔ HasMessage (inner_tops t)
  noted place is note at_note =
      let notes = of.notes in
      let told : NotesChunk tops n t note = notes.noted place n is.0 note t is.1 at_note at (is.2 ∙ there) in
      told.heard
