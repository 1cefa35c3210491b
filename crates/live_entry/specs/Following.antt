-- When the blocks of a file that is being written follow one another, and which messages they hold.
use Rattle.std.specs.Prelude.{◌≡◌, ◌<◌, ℕ, List, [], ◌∷◌, ◌++◌, AllPairs, Option, Some}
use Rattle.std.specs.List.{AllZip, flat_map}
use Rattle.rec_index.specs.Records.{chunk_opcode, message_index_opcode}
use Rattle.mcap_model.specs.Places.{At, Each}
use Rattle.mcap_model.specs.Tops.{Top, Placed, spelled, inner_tops, placed_from}
use Rattle.mcap_model.specs.Fields.{MessageFields, IsMessage, IsMessageIndex, IsHeader}
use Rattle.mcap_model.specs.Kept.{Good, reading_limits}
use Rattle.mcap_model.specs.Whole.{V9}
use Rattle.mcap_model.specs.Valid.{Keeps}
use Rattle.mcap_model.specs.Scan.{ScanOf, Seen}
use Rattle.live_entry.specs.declared.entry.Entry.{Entry}

-- ---- blocks

-- bytes that stand at an offset
pub record Stored : Type 0 where
  pub at : ℕ
  pub bytes : List ℕ

-- a Chunk with the Message Indexes behind it
pub record Stretch : Type 0 where
  pub chunk : Top
  pub indexes : List Top

abbrev pub stretch_tops : Stretch → List Top
stretch_tops s = s.chunk ∷ s.indexes

-- a channel has a message among the records
pub record HasMessageOn (records : List Top) (channel : ℕ) : Type 0 where
  pub place : ℕ
  pub top : Top
  pub message : MessageFields
  pub at : At records place top
  pub is : IsMessage top channel message

-- one of the records is a Message Index of that channel
pub record HasMessageIndex (records : List Top) (channel : ℕ) : Type 0 where
  pub place : ℕ
  pub top : Top
  pub entries : List (ℕ × ℕ)
  pub at : At records place top
  pub is : IsMessageIndex top channel entries

-- the bytes are one Chunk and a Message Index for each channel with a message in it
pub record IsStretch (bytes : List ℕ) (s : Stretch) : Type 0 where
  pub spelled_as : bytes ≡ spelled (stretch_tops s)
  pub chunk : s.chunk.op ≡ chunk_opcode
  pub indexes : Each (λ t. t.op ≡ message_index_opcode) s.indexes
  pub each : (channel : ℕ) → HasMessageOn (inner_tops s.chunk) channel → HasMessageIndex s.indexes channel
  pub only : (channel : ℕ) → HasMessageIndex s.indexes channel → HasMessageOn (inner_tops s.chunk) channel

-- all their records
abbrev pub all_tops : List Stretch → List Top
all_tops stretches = flat_map stretch_tops stretches

-- put behind a Header they are a good list that keeps the rule on Message Indexes
pub record AreGood (tops : List Top) : Type 0 where
  pub header : Top
  pub is_header : IsHeader header
  pub good : Good reading_limits (header ∷ tops)
  pub indexed : Keeps V9 (header ∷ tops)

-- stretches of a file that follow one another, with these records
pub record Follow (stored : List Stored) (stretches : List Stretch) : Type 0 where
  pub rise : AllPairs (λ p q. p.at < q.at) stored
  pub each : AllZip (λ p s. IsStretch p.bytes s) stored stretches
  pub good : AreGood (all_tops stretches)

-- the records that are flat, each placed by the offset of its stretch
abbrev pub placed_in : List Stored → List Stretch → List Placed
placed_in [] ss = []
placed_in (p ∷ ps) [] = []
placed_in (p ∷ ps) (s ∷ ss) = placed_from p.at (stretch_tops s) ++ placed_in ps ss

-- the messages of stretches, in their order
abbrev pub ScanStored : List Stored → List Stretch → List Seen → Type 0
ScanStored stored stretches messages = ScanOf (placed_in stored stretches) messages

-- ---- entries

-- an entry's extent tells these bytes, and its offset is theirs
pub record IsStored {X : Type 0} (tells : X → Option (List ℕ)) (e : Entry X) (p : Stored) : Type 0 where
  pub told : tells e.extent ≡ Some p.bytes
  pub offset : e.offset ≡ p.at
