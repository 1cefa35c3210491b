-- What the Chunk Indexes of a summary add to a replay, and the Channels that are known.
use Rattle.std.specs.Prelude.{◌≡◌, ◌⊎◌, ℕ, ◌+◌, ◌<◌, ◌≤◌, List, length, Bool, Option, Some, Result, Ok, Err}
use Rattle.mcap_io.specs.Stores.{StoreState}
use Rattle.rec_data.specs.Records.{channel_opcode}
use Rattle.mcap_model.specs.declared.replay.Shown.{Shown}
use Rattle.mcap_model.specs.declared.table.Declared.{Declared}
use Rattle.mcap_model.specs.Places.{At, Has}
use Rattle.mcap_model.specs.Tops.{Top}
use Rattle.mcap_model.specs.Made.{top}
use Rattle.mcap_model.specs.Fields.{ChannelFields, IsChannel, ChunkIndexFields, IsChunkIndex}
use Rattle.mcap_model.specs.Plain.{DeclareChannels}
use Rattle.mcap_model.specs.Led.{Meets}
use Rattle.mcap_model.specs.declared.refusals.IndexedRefused.{IndexedRefused}
use Rattle.indexed_replay.specs.declared.spots.Request.{Request}
use Rattle.indexed_replay.specs.Reaching.{HasChunkIndex, AskedBeside}
use Rattle.indexed_replay.specs.Replaying.{IsReason}
use Rattle.indexed_replay.specs.Steps.{AddsEachOnce}
use Rattle.indexed_replay.specs.HoldingSteps.{OverfullAt}
use Rattle.indexed_replay.specs.Lists.{KnowsSummaryChannels, Chooses, IsLedOnChannel}
use Rattle.indexed_replay.specs.Costs.{spot_of, IndexesCost}
use Rattle.indexed_replay.specs.Chunks.{IsLedAmong}

-- ---- channels

-- among the first so many records this is the first Channel of that id, and has that topic
pub record IsFirstChannel (tops : List Top) (count id : ℕ) (topic : List ℕ) : Type 0 where
  pub place : ℕ
  pub within : place < count
  pub top : Top
  pub shown : ChannelFields
  pub at : At tops place top
  pub is : IsChannel top id shown
  pub first : (n : ℕ) (t : Top) (f : ChannelFields) → n < place → At tops n t → IsChannel t id f → ⊥
  pub topic_is : shown.topic ≡ topic

-- the first Channels of the ids among the first so many records
pub record FirstChannels (tops : List Top) (count : ℕ) (channels : List Declared) : Type 0 where
  pub declare : DeclareChannels channels
  pub first : (k : ℕ) (d : Declared) (f : ChannelFields) → At channels k d
      → IsChannel (top channel_opcode d.content) d.id f → IsFirstChannel tops count d.id f.topic
  pub covers : (n : ℕ) (t : Top) (id : ℕ) (f : ChannelFields) → n < count → At tops n t → IsChannel t id f
      → (k : ℕ) × (d : Declared) × At channels k d × (d.id ≡ id)

-- with the Channel at that place they are those up to there
abbrev pub TakesChannel : List Top → ℕ → List Declared → List Declared → Type 0
TakesChannel tops i old new = FirstChannels tops i old → FirstChannels tops (i + 1) new

-- ---- chunks

-- one of the Chunk Indexes, which meets the range, leads to the message
pub record IsLedFrom (file : List ℕ) (request : Request) (tops : List Top) (s : Shown) : Type 0 where
  pub index : Top
  pub shown : ChunkIndexFields
  pub there : Has tops index
  pub is : IsChunkIndex index shown
  pub meets : Meets request.range shown
  pub led : IsLedAmong file request shown.offset shown.indexes s

-- each of these records that is a Chunk Index stands in the summary, at the offset beside it
abbrev pub AreIndexed : List ℕ → List Top → List ℕ → Type 0
AreIndexed file tops offsets = (n : ℕ) (t : Top) (f : ChunkIndexFields) (at : ℕ) → At tops n t → IsChunkIndex t f
    → At offsets n at → HasChunkIndex file at f

-- no two of these records are Chunk Indexes of one chunk
abbrev pub AreApart : List Top → Type 0
AreApart tops = (j k : ℕ) (t u : Top) (f g : ChunkIndexFields) → At tops j t → At tops k u → IsChunkIndex t f
    → IsChunkIndex u g → f.offset ≡ g.offset → j ≡ k

-- the data of their messages is too much, beside these: that is told at a Message Index that one of them names
pub record IndexFills (file : List ℕ) (request : Request) (tops : List Top) (old : List Shown) (why : IndexedRefused)
    : Type 0 where
  pub place : ℕ
  pub index : Top
  pub shown : ChunkIndexFields
  pub at : At tops place index
  pub is : IsChunkIndex index shown
  pub meets : Meets request.range shown
  pub named : ℕ × ℕ
  pub there : Has {X = ℕ × ℕ} shown.indexes named
  pub fills : OverfullAt (IsLedFrom file request tops) (IsLedOnChannel file request (spot_of shown.offset named))
      named.1 file old why

abbrev pub AllShown : List ℕ → Request → List Top → List ℕ → (List Shown × List Shown) → Result Unit IndexedRefused
    → Type 0
AllShown file request tops offsets shown (Ok it) = AddsEachOnce (IsLedFrom file request tops) shown.0 shown.1
AllShown file request tops offsets shown (Err why) =
    (AreIndexed file tops offsets → IsReason file request.range why) ⊎ IndexFills file request tops shown.0 why

abbrev pub Gathers : Option (List ℕ) → Request → List Top → List ℕ → (List Shown × List Shown)
    → Result Unit IndexedRefused → Type 0
Gathers told request tops offsets shown result = (file : List ℕ) → told ≡ Some file → length file ≡ request.len
    → KnowsSummaryChannels file request.tables.now.channels → AreApart tops
    → AllShown file request tops offsets shown result

-- ---- what is asked for

-- what the Chunk Indexes lead to was asked for; where one is refused, more beside
abbrev pub AllAsked : List ℕ → Request → List Top → List ℕ → ℕ → (ℕ × ℕ) → Result Unit IndexedRefused → Type 0
AllAsked file request tops offsets cost asked (Ok it) = asked.1 ≤ asked.0 + cost
AllAsked file request tops offsets cost asked (Err why) = KnowsSummaryChannels file request.tables.now.channels
    → AreIndexed file tops offsets → AskedBeside file request.range asked.0 asked.1 cost

abbrev pub AsksAll : Request → List Top → List ℕ → StoreState → StoreState → Result Unit IndexedRefused → Type 0
AsksAll request tops offsets old new result = (file : List ℕ) (chosen : ℕ → Bool) (cost : ℕ)
    → old.bytes ≡ Some file → Chooses request chosen → length file ≡ request.len
    → IndexesCost file request.range chosen tops cost
    → AllAsked file request tops offsets cost (old.asked, new.asked) result
