-- The most bytes that a replay of a fully indexed file asks for.
use Rattle.std.specs.Prelude.{◌≡◌, ℕ, ◌+◌, List, length, take, filter, sum, Bool, ◌&&◌, ◌==◌}
use Rattle.std.specs.List.{AllZip}
use Rattle.mcap_wire.specs.Layout.{number}
use Rattle.rec_index.specs.Records.{chunk_index_opcode}
use Rattle.mcap_model.specs.declared.replay.Range.{Range}
use Rattle.mcap_model.specs.Tops.{Top, top_bytes, spelled, inner_tops}
use Rattle.mcap_model.specs.Fields.{ChunkIndexFields, IsChunkIndex}
use Rattle.mcap_model.specs.Led.{HasSummary, IsThere, is_timely, Meets}

-- a Message in the range on one of the channels that are asked for, whose id is the first of its fields
abbrev pub is_asked : Range → (ℕ → Bool) → Top → Bool
is_asked range chosen t = is_timely range t && chosen (number (take 2 t.content))

-- of a chunk whose times meet the range: its first 49 bytes, its Message Indexes, and those of its messages
pub record ChunkCosts (file : List ℕ) (range : Range) (chosen : ℕ → Bool) (f : ChunkIndexFields) (cost : ℕ)
    : Type 0 where
  pub chunk : Top
  pub there : IsThere file f.offset chunk
  pub met : Meets range f
      → cost ≡ 49 + f.indexes_size + length (spelled (filter (is_asked range chosen) (inner_tops chunk)))
  pub missed : (Meets range f → ⊥) → cost ≡ 0

-- the magic, the Header, the Footer with the last magic, the summary, and what is read of the chunks
pub record AskedBound (file : List ℕ) (range : Range) (chosen : ℕ → Bool) (bound : ℕ) : Type 0 where
  pub header : Top
  pub first : IsThere file 8 header
  pub start : ℕ
  pub summary : List Top
  pub has : HasSummary file start summary
  pub indexes : List ChunkIndexFields
  pub are_indexes : AllZip IsChunkIndex (filter (λ t. t.op == chunk_index_opcode) summary) indexes
  pub costs : List ℕ
  pub are_costs : AllZip (ChunkCosts file range chosen) indexes costs
  pub sum_is : bound ≡ 8 + length (top_bytes header) + 37 + length (spelled summary) + sum costs
