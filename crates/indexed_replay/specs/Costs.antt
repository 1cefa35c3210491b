-- How many bytes a replay by the index asks for, of what its summary leads to.
use Rattle.std.specs.Prelude.{◌≡◌, ◌≢◌, ℕ, ◌+◌, ◌≤◌, List, [], ◌∷◌, length, Bool, true, false, Option, ◌-◌, drop, sum_by, if◌then◌else◌}
use Rattle.mcap_wire.specs.Layout.{text_length}
use Rattle.rec_index.specs.Records.{chunk_opcode, message_index_opcode}
use Rattle.mcap_model.specs.declared.replay.Range.{Range}
use Rattle.mcap_model.specs.Tops.{Top, top_bytes, declared_length, is_whole}
use Rattle.mcap_model.specs.Fields.{ChunkIndexFields, IsChunkIndex, IsMessageIndex}
use Rattle.mcap_model.specs.Led.{HasSummary, FirstTopic, IsThere, Meets}
use Rattle.indexed_replay.specs.declared.spots.Spot.{Spot}
use Rattle.indexed_replay.specs.Reaching.{ChunkEndsAt, LacksIndex, head_length}
use Rattle.mcap_model.specs.Scan.{is_within, OnTopic}

-- ---- channels

-- the first Channel of that id in the summary has the topic that is asked for, if one is
pub record IsOnTopic (file : List ℕ) (topic : Option (List ℕ)) (channel : ℕ) : Type 0 where
  pub start : ℕ
  pub summary : List Top
  pub has : HasSummary file start summary
  pub name : List ℕ
  pub first : FirstTopic summary channel name
  pub on : OnTopic topic name

-- a choice of channels has all of those
abbrev pub HasChannelsOn : List ℕ → Option (List ℕ) → (ℕ → Bool) → Type 0
HasChannelsOn file topic chosen = (channel : ℕ) → IsOnTopic file topic channel → chosen channel ≡ true

-- ---- a message

-- what the reading of a message asks for: 31 bytes, and the rest of the record, where a whole one stands there
abbrev pub message_cost : List ℕ → ℕ → ℕ
message_cost file at = 31 + (if is_whole (drop at file) then declared_length (drop at file) - 22 else 0)

-- ---- the entries of a Message Index

-- what the reading of the messages in the range asks for
abbrev pub entry_cost : List ℕ → Range → ℕ → ℕ × ℕ → ℕ
entry_cost file range chunk entry = if is_within range entry.0 then message_cost file (chunk + 49 + entry.1) else 0

abbrev pub entries_cost : List ℕ → Range → ℕ → List (ℕ × ℕ) → ℕ
entries_cost file range chunk entries = sum_by (entry_cost file range chunk) entries

-- the same, where its channel is one of those that are asked for
abbrev pub chosen_cost : List ℕ → Range → (ℕ → Bool) → Spot → List (ℕ × ℕ) → ℕ
chosen_cost file range chosen spot entries =
    if chosen spot.channel then entries_cost file range spot.chunk entries else 0

-- ---- a Message Index

-- no Message Index stands there, of whatever channel
abbrev pub LacksList : List ℕ → ℕ → Type 0
LacksList file at = (t : Top) → IsThere file at t → t.op ≡ message_index_opcode → ⊥

-- What its reading asks for: all of it and the messages in the range, where its channel is asked for; or all of what stands
-- there as a Message Index, which isn't one of that channel; or the head of what else stands there.
pub data ListCost (file : List ℕ) (range : Range) (chosen : ℕ → Bool) (spot : Spot) : ℕ → Type 0 where
  own_list : (list : Top) (entries : List (ℕ × ℕ)) → IsThere file spot.list list
      → IsMessageIndex list spot.channel entries
      → ListCost file range chosen spot (length (top_bytes list) + chosen_cost file range chosen spot entries)
  other_list : (list : Top) → IsThere file spot.list list → list.op ≡ message_index_opcode
      → LacksIndex file spot.channel spot.list → ListCost file range chosen spot (length (top_bytes list))
  no_list : LacksList file spot.list → ListCost file range chosen spot head_length

-- ---- what is asked for of it

-- how much of a chunk's content stands in front of its records, beside the compression
abbrev pub front_length : ℕ
front_length = 40

-- the bytes of a chunk without a compression in front of its records
abbrev pub plain_length : ℕ
plain_length = head_length + front_length

-- a record of a chunk's opcode stands there, whose content has room for a compression of that length, which isn't 0
pub record IsPackedAs (file : List ℕ) (offset size : ℕ) : Type 0 where
  pub chunk : Top
  pub there : IsThere file offset chunk
  pub kind : chunk.op ≡ chunk_opcode
  pub named : text_length chunk.content 28 ≡ size
  pub some : size ≢ 0
  pub room : front_length + size ≤ length chunk.content

-- ---- the Message Indexes that are named

abbrev pub spot_of : ℕ → ℕ × ℕ → Spot
spot_of chunk named = record { chunk = chunk; list = named.1; channel = named.0 }

-- ---- what is asked for

-- What the Message Indexes that are named cost one after the other, up to the first that isn't there; and whether there is
-- such a one, at which a replay ends.
pub data NamesCost (file : List ℕ) (range : Range) (chosen : ℕ → Bool) (chunk : ℕ)
    : List (ℕ × ℕ) → ℕ → Bool → Type 0 where
  no_name : NamesCost file range chosen chunk [] 0 false
  next_name : (named : ℕ × ℕ) (others : List (ℕ × ℕ)) (cost rest : ℕ) (ends : Bool)
      → ListCost file range chosen (spot_of chunk named) cost → NamesCost file range chosen chunk others rest ends
      → NamesCost file range chosen chunk (named ∷ others) (cost + rest) ends
  last_name : (named : ℕ × ℕ) (others : List (ℕ × ℕ)) (cost : ℕ)
      → ListCost file range chosen (spot_of chunk named) cost → LacksIndex file named.0 named.1
      → NamesCost file range chosen chunk (named ∷ others) cost true

-- What a Chunk Index costs, and whether a replay ends there. An empty map costs nothing. Of a chunk without a compression it is
-- what stands in front of its records, and what its Message Indexes cost; of one that names a compression its front with that
-- name besides; and of what is no chunk as much as such a front has.
pub data ChunkCost (file : List ℕ) (range : Range) (chosen : ℕ → Bool) (f : ChunkIndexFields) : ℕ → Bool → Type 0 where
  empty_map : f.indexes ≡ [] → ChunkCost file range chosen f 0 false
  plain_chunk : (end cost : ℕ) (ends : Bool) → ChunkEndsAt file f.offset end
      → NamesCost file range chosen f.offset f.indexes cost ends
      → ChunkCost file range chosen f (plain_length + cost) ends
  compressed_chunk : (size : ℕ) → f.indexes ≢ [] → IsPackedAs file f.offset size
      → ChunkCost file range chosen f (plain_length + (front_length + size)) true
  lacking_chunk : f.indexes ≢ [] → ((end : ℕ) → ChunkEndsAt file f.offset end → ⊥)
      → ((size : ℕ) → IsPackedAs file f.offset size → ⊥) → ChunkCost file range chosen f plain_length true

-- At most so much of the chunk of that Chunk Index, where it meets the range; and a replay doesn't end there.
abbrev pub CostsUpTo : List ℕ → Range → (ℕ → Bool) → Top → ℕ → Type 0
CostsUpTo file range chosen t cost =
    (f : ChunkIndexFields) → IsChunkIndex t f → Meets range f
    → (n : ℕ) × ChunkCost file range chosen f n false × (n ≤ cost)

-- what the Chunk Indexes cost one after the other, up to the first that meets the range and at which a replay ends
pub data IndexesCost (file : List ℕ) (range : Range) (chosen : ℕ → Bool) : List Top → ℕ → Type 0 where
  no_index : IndexesCost file range chosen [] 0
  next_index : (t : Top) (others : List Top) (cost rest : ℕ) → CostsUpTo file range chosen t cost
      → IndexesCost file range chosen others rest → IndexesCost file range chosen (t ∷ others) (cost + rest)
  last_index : (t : Top) (others : List Top) (f : ChunkIndexFields) (cost : ℕ) → IsChunkIndex t f → Meets range f
      → ChunkCost file range chosen f cost true → IndexesCost file range chosen (t ∷ others) cost
