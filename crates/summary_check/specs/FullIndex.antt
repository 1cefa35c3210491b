-- When a valid file is fully indexed.
use Rattle.std.specs.Prelude.{◌≡◌, ℕ, List, [], Bool, true, false}
use Rattle.rec_index.specs.Records.{statistics_opcode}
use Rattle.mcap_model.specs.Places.{At, Each}
use Rattle.mcap_model.specs.Tops.{Top, inner_tops}
use Rattle.mcap_model.specs.Fields.{ChunkFields, ChunkIndexFields, IsChunkIndex}
use Rattle.mcap_model.specs.Whole.{IsIndexOf}
use Rattle.index_check.specs.declared.spots.Spot.{Spot}
use Rattle.index_check.specs.Chunks.{HasMessage}
use Rattle.summary_check.specs.Repeating.{AreRepeated}

-- a Chunk Index with an empty map has both times 0, and its chunk holds no Message
abbrev pub EmptyIsRight : ChunkIndexFields → Top → Type 0
EmptyIsRight f c = f.indexes ≡ [] → (f.start ≡ 0) × (f.end ≡ 0) × (HasMessage (inner_tops c) → ⊥)

-- so it is with the record, where it is a Chunk Index
abbrev pub EmptyRight : List Top → Top → Type 0
EmptyRight all t = (f : ChunkIndexFields) (k : ℕ) (c : Top) (g : ChunkFields) → IsChunkIndex t f → IsIndexOf all f k c g
    → EmptyIsRight f c

abbrev pub HasStatistics : List Top → Type 0
HasStatistics body = (k : ℕ) × (t : Top) × At body k t × (t.op ≡ statistics_opcode)

-- what makes a valid file fully indexed: no Message stands at top level, there are Statistics, each chunk has an index, which
-- names Message Indexes where the chunk holds Messages, and the Channels of all messages are repeated
pub record MakesFullyIndexed (all body : List Top) (spots : List Spot) (has : Bool) : Type 0 where
  pub no_message : has ≡ false
  pub statistics : HasStatistics body
  pub named : Each (λ s. s.named ≡ true) spots
  pub empties : Each (EmptyRight all) body
  pub channels : AreRepeated all
