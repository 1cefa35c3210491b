-- What is kept of chunks and of the Message Indexes behind them, for their indexes.
use Rattle.std.specs.Prelude.{◌≡◌, ◌≢◌, ◌⊎◌, ◌↔◌, ℕ, suc, ◌+◌, ◌-◌, ◌^◌, min, List, [], ◌∷◌, ◌++◌, length, true}
use Rattle.rec_data.specs.Records.{message_opcode}
use Rattle.rec_index.specs.Records.{chunk_opcode, message_index_opcode}
use Rattle.mcap_model.specs.Places.{At, Has, Each}
use Rattle.mcap_model.specs.Tops.{Top, top_bytes, spelled, inner_tops}
use Rattle.mcap_model.specs.Fields.{ChunkFields, IsChunk, IsMessageIndex, ChunkIndexFields, IsChunkIndex}
use Rattle.mcap_model.specs.Whole.{offset_of, indexes_behind}
use Rattle.index_check.specs.declared.chunk_indexes.IndexNote.{IndexNote}
use Rattle.index_check.specs.declared.chunk_indexes.ChunkNote.{ChunkNote}
use Rattle.index_check.specs.declared.chunk_indexes.Chunks.{Chunks}
use Rattle.index_check.specs.Spots.{SpotsOf, NotesOf, NamedBy}

-- ---- what an index says of what was noted

abbrev pub IsNoteAt : IndexNote → ℕ → ℕ → Type 0
IsNoteAt note channel offset = (note.channel ≡ channel) × (note.offset ≡ offset)

abbrev pub IsNotedAt : List IndexNote → ℕ → ℕ → Type 0
IsNotedAt notes channel offset = (k : ℕ) × (note : IndexNote) × At notes k note × IsNoteAt note channel offset

-- a map names none but these Message Indexes
abbrev pub AreNoted : List (ℕ × ℕ) → List IndexNote → Type 0
AreNoted map notes = Each (λ name. IsNotedAt notes name.0 name.1) map

abbrev pub IsNamedOrEmpty : List (ℕ × ℕ) → IndexNote → Type 0
IsNamedOrEmpty map note = note.entries ≢ 0 → Has map (note.channel, note.offset)

-- it names all of them that have entries
abbrev pub NamesAllNotes : List (ℕ × ℕ) → List IndexNote → Type 0
NamesAllNotes map notes = Each (IsNamedOrEmpty map) notes

abbrev pub NamesNoted : ChunkNote → ChunkIndexFields → Type 0
NamesNoted note f = (f.indexes ≡ [])
    ⊎ ((f.indexes_size ≡ note.indexes_length) × AreNoted f.indexes note.indexes.items × NamesAllNotes f.indexes note.indexes.items)

abbrev pub IndexMatchesNote : ChunkNote → ChunkIndexFields → Type 0
IndexMatchesNote note f = (f.size ≡ note.length) × (f.start ≡ note.start) × (f.end ≡ note.end) × (f.compression ≡ [])
    × (f.compressed ≡ note.size) × (f.uncompressed ≡ note.size)

abbrev pub IsOfChunk : ChunkNote → ChunkIndexFields → Type 0
IsOfChunk note f = IndexMatchesNote note f × NamesNoted note f

-- ---- what was noted

-- one of the records is a Message
abbrev pub HasMessage : List Top → Type 0
HasMessage records = (n : ℕ) × (t : Top) × At records n t × (t.op ≡ message_opcode)

-- this was noted of the Message Index that stands so far behind the chunk at that place
pub record NotesIndex (tops : List Top) (k p : ℕ) (t : Top) (note : IndexNote) : Type 0 where
  pub shown : List (ℕ × ℕ)
  pub is : IsMessageIndex t note.channel shown
  pub there : note.offset ≡ offset_of tops (suc k + p)
  pub counted : note.entries ≡ length shown

pub record NotesIndexes (tops : List Top) (k : ℕ) (notes : List IndexNote) : Type 0 where
  pub paired : length notes ≡ length (indexes_behind tops k)
  pub noted : (p : ℕ) (note : IndexNote) (t : Top) → At notes p note → At (indexes_behind tops k) p t
      → NotesIndex tops k p t note

-- this was noted of the chunk at that place, which names no compression
pub record NotesChunk (tops : List Top) (k : ℕ) (t : Top) (note : ChunkNote) : Type 0 where
  pub shown : ChunkFields
  pub is : IsChunk t shown
  pub plain : shown.compression ≡ []
  pub size : note.length ≡ length (top_bytes t)
  pub start : note.start ≡ shown.start
  pub end : note.end ≡ shown.end
  pub records : note.size ≡ length shown.records
  pub uncompressed : note.size ≡ shown.size
  pub indexes : NotesIndexes tops k note.indexes.items
  pub indexes_size : note.indexes_length ≡ length (spelled (indexes_behind tops k))
  pub heard : (note.messages ≡ true) ↔ HasMessage (inner_tops t)

-- all chunks of these records are kept
pub record ChunksOf (tops : List Top) (kept : Chunks) : Type 0 where
  pub spots : SpotsOf (λ t. t.op ≡ chunk_opcode) tops kept.spots
  pub notes : NotesOf (NotesChunk tops) tops kept.spots kept.notes.items

abbrev pub IndexesChunk : Top → ℕ → Type 0
IndexesChunk t offset = (f : ChunkIndexFields) × IsChunkIndex t f × (f.offset ≡ offset)

-- those are marked that the indexes in front of that place name
abbrev pub ChunksNamed : List Top → ℕ → Chunks → Type 0
ChunksNamed tops n kept = NamedBy IndexesChunk tops n kept.spots

-- ---- one record more

-- the last of these records are a chunk and, behind it, Message Indexes alone
pub record EndsWithChunk (tops : List Top) : Type 0 where
  pub others : List Top
  pub chunk : Top
  pub earlier : List Top
  pub joined : tops ≡ others ++ chunk ∷ earlier
  pub kind : chunk.op ≡ chunk_opcode
  pub indexes : Each (λ u. u.op ≡ message_index_opcode) earlier

-- a Message Index of that length is added to what was noted
pub record AddsIndex (old new : ChunkNote) (note : IndexNote) (size : ℕ) : Type 0 where
  pub length : new.length ≡ old.length
  pub start : new.start ≡ old.start
  pub end : new.end ≡ old.end
  pub records : new.size ≡ old.size
  pub messages : new.messages ≡ old.messages
  pub indexes : new.indexes.items ≡ old.indexes.items ++ note ∷ []
  pub together : new.indexes_length ≡ min (old.indexes_length + size) (2 ^ 64 - 1)
