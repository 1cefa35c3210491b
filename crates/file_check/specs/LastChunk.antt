-- The last chunk and the Message Indexes behind it.
use Rattle.std.specs.Prelude.{◌≡◌, ℕ, List, ◌∷◌, ◌++◌, [], Result, Ok, Err, Option, Some, None, true, false}
use Rattle.mcap_wire.specs.declared.faults.Memory.{Memory}
use Rattle.mcap_model.specs.Tops.{Top, offset_behind}
use Rattle.mcap_model.specs.Whole.{V9}
use Rattle.mcap_model.specs.Valid.{Keeps}
use Rattle.index_check.specs.Behind.{IsChunkOpen}
use Rattle.index_check.specs.Chunks.{EndsWithChunk}
use Rattle.file_check.specs.declared.last_chunk.LastChunk.{LastChunk}
use Rattle.file_check.specs.CutFiles.{IndexFails}

-- the records end with the chunk that is kept and its Message Indexes
pub record KeepsLastChunk (tops : List Top) (last : LastChunk) : Type 0 where
  pub is : IsChunkOpen tops last.messages last.channels
  pub there : last.offset ≡ offset_behind is.others

-- so do they, or with no chunk
pub record LastOf (tops : List Top) (last : LastChunk) : Type 0 where
  pub kept : last.is_open ≡ true → KeepsLastChunk tops last
  pub none : last.is_open ≡ false → EndsWithChunk tops → ⊥

-- the record behind these was taken; or V9 fails at that offset, whatever follows
abbrev pub LastTaken : List Top → Top → LastChunk → Result (Option ℕ) Memory → Type 0
LastTaken tops t last (Ok None) = LastOf (tops ++ t ∷ []) last × Keeps V9 (tops ++ t ∷ [])
LastTaken tops t last (Ok (Some offset)) = (more : List Top) → IndexFails (tops ++ t ∷ more) offset
LastTaken tops t last (Err memory) = Unit {0}
