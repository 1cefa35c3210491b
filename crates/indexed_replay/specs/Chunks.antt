-- What a chunk adds to a replay.
use Rattle.std.specs.Prelude.{◌≡◌, ◌≢◌, ◌⊎◌, ℕ, ◌+◌, ◌≤◌, List, [], ◌∷◌, length, Bool, false, Option, Some, Result, Ok, Err}
use Rattle.mcap_io.specs.Stores.{StoreState}
use Rattle.mcap_wire.specs.Layout.{text_length}
use Rattle.mcap_wire.specs.Contents.{Kind, a_number, a_text, ShowsRow}
use Rattle.rec_index.specs.Records.{chunk_opcode}
use Rattle.mcap_model.specs.declared.replay.Shown.{Shown}
use Rattle.mcap_model.specs.Places.{Has}
use Rattle.mcap_model.specs.Tops.{Top}
use Rattle.mcap_model.specs.Fields.{ChunkIndexFields}
use Rattle.mcap_model.specs.Kept.{NamesCompression}
use Rattle.mcap_model.specs.Led.{IsThere}
use Rattle.mcap_model.specs.declared.refusals.ReadingRefused.{ReadingRefused}
use Rattle.mcap_model.specs.declared.refusals.ReadingRefused.TheVariants as refusals
use Rattle.mcap_model.specs.declared.refusals.IndexedRefused.{IndexedRefused}
use Rattle.mcap_model.specs.declared.rules.Rule.TheVariants as rules
use Rattle.indexed_replay.specs.declared.spots.Request.{Request}
use Rattle.indexed_replay.specs.Reaching.{IsReached, ChunkEndsAt, LacksChunk, IsTooLong, AskedBeside}
use Rattle.indexed_replay.specs.Replaying.{IsReason}
use Rattle.indexed_replay.specs.Steps.{AddsEachOnce}
use Rattle.indexed_replay.specs.HoldingSteps.{OverfullAt}
use Rattle.indexed_replay.specs.Lists.{KnowsSummaryChannels, Chooses, IsLedBy, IsLedOnChannel}
use Rattle.indexed_replay.specs.Costs.{front_length, plain_length, IsPackedAs, spot_of, NamesCost, ChunkCost}

-- ---- the front of a chunk

-- what a chunk has in front of its records: two times, the size, the CRC, the compression, and the length of the records
abbrev pub front_kinds : List Kind
front_kinds = a_number 8 ∷ a_number 8 ∷ a_number 8 ∷ a_number 4 ∷ a_text ∷ a_number 8 ∷ []

-- some bytes show this compression and this length of the records, whatever follows them
abbrev pub ShowsFront : List ℕ → List ℕ → ℕ → Type 0
ShowsFront front name size =
    (start end whole crc : ℕ) × ShowsRow front_kinds front (start, (end, (whole, (crc, (name, (size, tt))))))

-- a chunk there names this compression
pub record PackedAt (file : List ℕ) (offset : ℕ) (name : List ℕ) : Type 0 where
  pub chunk : Top
  pub there : IsThere file offset chunk
  pub packed : NamesCompression chunk name

-- why a chunk that a Chunk Index at the first offset leads to, at the other, isn't looked into
abbrev pub ChunkRefused : List ℕ → ℕ → ℕ → ReadingRefused → Type 0
ChunkRefused file index at (refusals.Fault faults) = Unit {0}
ChunkRefused file index at (refusals.Grammar offset rule) = (rule ≡ rules.V12) × (offset ≡ index) × LacksChunk file at
ChunkRefused file index at (refusals.Compressed offset name) = (offset ≡ at) × PackedAt file at name
ChunkRefused file index at (refusals.Limit offset) = (offset ≡ at) × IsTooLong file offset
ChunkRefused file index at refusals.Memory = Unit {0}

abbrev pub ChunkChecked : List ℕ → ℕ → ℕ → Result ℕ ReadingRefused → Type 0
ChunkChecked file index at (Ok end) = ChunkEndsAt file at end
ChunkChecked file index at (Err why) = ChunkRefused file index at why

abbrev pub ChecksChunk : Option (List ℕ) → ℕ → ℕ → ℕ → Result ℕ ReadingRefused → Type 0
ChecksChunk told len index at result =
    (file : List ℕ) → told ≡ Some file → length file ≡ len → ChunkChecked file index at result

-- where a record of a chunk's opcode stands there, of a content of the first length and with a compression of the other
abbrev pub NamesPack : Option (List ℕ) → ℕ → ℕ → ℕ → ℕ → ReadingRefused → Type 0
NamesPack told index at len size why = (file : List ℕ) (t : Top) → told ≡ Some file → IsThere file at t
    → t.op ≡ chunk_opcode → length t.content ≡ len → text_length t.content 28 ≡ size → size ≢ 0
    → ChunkRefused file index at why

-- ---- what is asked for of it

-- From the one count on no more was asked for than the bytes in front of the records of a chunk without a compression; where
-- one is named, than these, and the front of the content with that name.
pub record FrontAsked (file : List ℕ) (at before now : ℕ) : Type 0 where
  pub packed : (size : ℕ) → IsPackedAs file at size → now ≤ before + (plain_length + (front_length + size))
  pub plain : ((size : ℕ) → IsPackedAs file at size → ⊥) → now ≤ before + plain_length

abbrev pub AsksFront : ℕ → ℕ → StoreState → StoreState → Type 0
AsksFront len at old new =
    (file : List ℕ) → old.bytes ≡ Some file → length file ≡ len → FrontAsked file at old.asked new.asked

-- ---- the Message Indexes that are named

-- one of these Message Indexes leads to the message
pub record IsLedAmong (file : List ℕ) (request : Request) (chunk : ℕ) (indexes : List (ℕ × ℕ)) (s : Shown)
    : Type 0 where
  pub named : ℕ × ℕ
  pub there : Has {X = ℕ × ℕ} indexes named
  pub led : IsLedBy file request (spot_of chunk named) s

-- the data of its messages is too much, beside these: that is told at a Message Index that it names
pub record NameFills (file : List ℕ) (request : Request) (f : ChunkIndexFields) (old : List Shown)
    (why : IndexedRefused) : Type 0 where
  pub named : ℕ × ℕ
  pub there : Has {X = ℕ × ℕ} f.indexes named
  pub fills : OverfullAt (IsLedAmong file request f.offset f.indexes)
      (IsLedOnChannel file request (spot_of f.offset named)) named.1 file old why

-- a Chunk Index at that offset
abbrev pub ChunkShown : List ℕ → Request → ℕ → ChunkIndexFields → (List Shown × List Shown) → Result Unit IndexedRefused
    → Type 0
ChunkShown file request at f shown (Ok it) = AddsEachOnce (IsLedAmong file request f.offset f.indexes) shown.0 shown.1
ChunkShown file request at f shown (Err why) =
    (IsReached file request.range at f → IsReason file request.range why) ⊎ NameFills file request f shown.0 why

abbrev pub TellsChunkShown : Option (List ℕ) → Request → ℕ → ChunkIndexFields → (List Shown × List Shown)
    → Result Unit IndexedRefused → Type 0
TellsChunkShown told request at f shown result = (file : List ℕ) → told ≡ Some file → length file ≡ request.len
    → KnowsSummaryChannels file request.tables.now.channels → ChunkShown file request at f shown result

-- the same where the chunk ends at that offset
abbrev pub ShowsNames : Option (List ℕ) → Request → ℕ → ℕ → ChunkIndexFields → (List Shown × List Shown)
    → Result Unit IndexedRefused → Type 0
ShowsNames told request at end f shown result = (file : List ℕ) → told ≡ Some file → length file ≡ request.len
    → KnowsSummaryChannels file request.tables.now.channels → ChunkEndsAt file f.offset end
    → ChunkShown file request at f shown result

-- ---- what is asked for

-- What a Chunk Index at that offset leads to was asked for; where it is refused, more beside. Behind one at which a replay ends
-- it doesn't go on.
abbrev pub ChunkAsked : List ℕ → Request → ℕ → ChunkIndexFields → (ℕ × Bool) → (ℕ × ℕ) → Result Unit IndexedRefused
    → Type 0
ChunkAsked file request at f cost asked (Ok it) = (asked.1 ≤ asked.0 + cost.0) × (cost.1 ≡ false)
ChunkAsked file request at f cost asked (Err why) = KnowsSummaryChannels file request.tables.now.channels
    → IsReached file request.range at f → AskedBeside file request.range asked.0 asked.1 cost.0

-- the same where the chunk ends at that offset
abbrev pub AsksNames : Request → ℕ → ℕ → ChunkIndexFields → StoreState → StoreState → Result Unit IndexedRefused
    → Type 0
AsksNames request at end f old new result = (file : List ℕ) (chosen : ℕ → Bool) (cost : ℕ) (ends : Bool)
    → old.bytes ≡ Some file → Chooses request chosen
    → length file ≡ request.len → ChunkEndsAt file f.offset end
    → NamesCost file request.range chosen f.offset f.indexes cost ends
    → ChunkAsked file request at f (cost, ends) (old.asked, new.asked) result

abbrev pub AsksChunk : Request → ℕ → ChunkIndexFields → StoreState → StoreState → Result Unit IndexedRefused → Type 0
AsksChunk request at f old new result = (file : List ℕ) (chosen : ℕ → Bool) (cost : ℕ) (ends : Bool)
    → old.bytes ≡ Some file → Chooses request chosen → length file ≡ request.len
    → ChunkCost file request.range chosen f cost ends
    → ChunkAsked file request at f (cost, ends) (old.asked, new.asked) result
