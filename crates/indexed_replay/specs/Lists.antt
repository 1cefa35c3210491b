-- What a Message Index adds to a replay.
use Rattle.std.specs.Prelude.{◌≡◌, ◌⊎◌, ℕ, ◌+◌, ◌≤◌, List, length, Bool, true, false, Option, Some, Result, Ok, Err}
use Rattle.mcap_io.specs.Stores.{StoreState}
use Rattle.rec_data.specs.Records.{channel_opcode}
use Rattle.rec_index.specs.Records.{ShowsMessageIndex}
use Rattle.mcap_model.specs.declared.replay.Range.{Range}
use Rattle.mcap_model.specs.declared.replay.Shown.{Shown}
use Rattle.mcap_model.specs.declared.table.Declared.{Declared}
use Rattle.mcap_model.specs.Places.{At, Has}
use Rattle.mcap_model.specs.Tops.{Top}
use Rattle.mcap_model.specs.Fields.{ChannelFields, IsChannel, ChunkIndexFields}
use Rattle.mcap_model.specs.Made.{top}
use Rattle.mcap_model.specs.Plain.{DeclareChannels, asked_topic}
use Rattle.mcap_model.specs.Scan.{InRange, OnTopic}
use Rattle.mcap_model.specs.Led.{HasSummary, FirstTopic, LedByIndex}
use Rattle.mcap_model.specs.declared.refusals.ReadingRefused.{ReadingRefused}
use Rattle.mcap_model.specs.declared.refusals.IndexedRefused.{IndexedRefused}
use Rattle.mcap_model.specs.declared.refusals.IndexedRefused.TheVariants as by_index
use Rattle.mcap_model.specs.declared.refusals.NotIndexed.TheVariants as lacks
use Rattle.indexed_replay.specs.declared.spots.Spot.{Spot}
use Rattle.indexed_replay.specs.declared.spots.Request.{Request}
use Rattle.indexed_replay.specs.Reaching.{NamesOffset, LeadsNowhere, LacksIndex}
use Rattle.indexed_replay.specs.Replaying.{IsReason}
use Rattle.time_player.specs.Ordering.{led_as}
use Rattle.indexed_replay.specs.HoldingSteps.{OverfullAt}
use Rattle.indexed_replay.specs.Steps.{AddsEachOnce, IsLedInRange, LacksListed, EntriesRefused}
use Rattle.indexed_replay.specs.Costs.{chosen_cost, ListCost}

-- ---- channels

-- the channel was declared, and has the topic that is asked for, if any
pub record IsWantedChannel (channels : List Declared) (channel : ℕ) (topic : Option (List ℕ)) : Type 0 where
  pub place : ℕ
  pub declared : Declared
  pub shown : ChannelFields
  pub at : At channels place declared
  pub id_is : declared.id ≡ channel
  pub is : IsChannel (top channel_opcode declared.content) channel shown
  pub on_topic : OnTopic topic shown.topic

-- a choice of channels has all that are wanted
pub record Chooses (request : Request) (chosen : ℕ → Bool) : Type 0 where
  pub declare : DeclareChannels request.tables.now.channels
  pub all : (channel : ℕ) → IsWantedChannel request.tables.now.channels channel (asked_topic request.topic)
      → chosen channel ≡ true

-- none of that id was declared
abbrev pub Undeclared : List Declared → ℕ → Type 0
Undeclared channels channel = (k : ℕ) (d : Declared) → At channels k d → d.id ≡ channel → ⊥

-- these are the first Channels of the ids of the summary
pub record KnowsSummaryChannels (file : List ℕ) (channels : List Declared) : Type 0 where
  pub start : ℕ
  pub summary : List Top
  pub has : HasSummary file start summary
  pub declare : DeclareChannels channels
  pub first : (k : ℕ) (d : Declared) (f : ChannelFields) → At channels k d
      → IsChannel (top channel_opcode d.content) d.id f → FirstTopic summary d.id f.topic
  pub covers : (t : Top) (id : ℕ) (f : ChannelFields) → Has summary t → IsChannel t id f
      → (k : ℕ) × (d : Declared) × At channels k d × (d.id ≡ id)

-- ---- entries

abbrev pub HasTimely : Range → List (ℕ × ℕ) → Type 0
HasTimely range entries = (entry : ℕ × ℕ) × Has entries entry × InRange range entry.0

-- ---- a Message Index of some content

-- one of its entries leads to the message, whose channel is wanted
pub record IsShownBy (file : List ℕ) (request : Request) (spot : Spot) (entries : List (ℕ × ℕ)) (s : Shown)
    : Type 0 where
  pub listed : IsLedInRange file request.range spot entries s
  pub wanted : IsWantedChannel request.tables.now.channels s.channel (asked_topic request.topic)

-- why its messages aren't shown: that of an entry in the range can't be read, or there is one and no Channel; or there is too much
-- data beside these
pub data ContentRefused (file : List ℕ) (request : Request) (spot : Spot) (entries : List (ℕ × ℕ)) (old : List Shown)
    : IndexedRefused → Type 0 where
  at_entry : (why : ReadingRefused) → EntriesRefused file request.range spot entries why
      → ContentRefused file request spot entries old (by_index.Refused why)
  no_channel : HasTimely request.range entries → Undeclared request.tables.now.channels spot.channel
      → ContentRefused file request spot entries old (by_index.NotIndexed (lacks.NoChannel spot.channel))
  too_much : (why : IndexedRefused)
      → OverfullAt (IsShownBy file request spot entries) (IsShownBy file request spot entries) spot.list file old why
      → ContentRefused file request spot entries old why

abbrev pub ContentShown : List ℕ → Request → Spot → List (ℕ × ℕ) → (List Shown × List Shown)
    → Result Bool IndexedRefused → Type 0
ContentShown file request spot entries shown (Ok true) =
    AddsEachOnce (IsShownBy file request spot entries) shown.0 shown.1
ContentShown file request spot entries shown (Ok false) = LacksListed file request.range spot entries
ContentShown file request spot entries shown (Err why) = ContentRefused file request spot entries shown.0 why

abbrev pub ShowsContent : Option (List ℕ) → Request → Spot → List ℕ → (List Shown × List Shown)
    → Result Bool IndexedRefused → Type 0
ShowsContent told request spot content shown result = (file : List ℕ) (entries : List (ℕ × ℕ)) → told ≡ Some file
    → length file ≡ request.len → DeclareChannels request.tables.now.channels
    → ShowsMessageIndex content spot.channel entries → ContentShown file request spot entries shown result

abbrev pub AsksContent : Request → Spot → List ℕ → StoreState → StoreState → Type 0
AsksContent request spot content old new = (file : List ℕ) (chosen : ℕ → Bool) (entries : List (ℕ × ℕ))
    → old.bytes ≡ Some file → Chooses request chosen → length file ≡ request.len
    → ShowsMessageIndex content spot.channel entries
    → new.asked ≤ old.asked + chosen_cost file request.range chosen spot entries

-- ---- a Message Index

-- the Message Index leads to the message, whose channel is wanted
pub record IsLedBy (file : List ℕ) (request : Request) (spot : Spot) (s : Shown) : Type 0 where
  pub led : LedByIndex file request.range spot.chunk spot.list (led_as s)
  pub wanted : IsWantedChannel request.tables.now.channels s.channel (asked_topic request.topic)

-- and its channel is the one that is named
pub record IsLedOnChannel (file : List ℕ) (request : Request) (spot : Spot) (s : Shown) : Type 0 where
  pub led : IsLedBy file request spot s
  pub own : s.channel ≡ spot.channel

-- why its messages aren't shown, where a Chunk Index that is reached at that offset names it
abbrev pub ListRefused : List ℕ → Request → ℕ → Spot → IndexedRefused → Type 0
ListRefused file request at spot why = (f : ChunkIndexFields) → f.offset ≡ spot.chunk
    → NamesOffset file request.range at f spot.channel spot.list → IsReason file request.range why

-- one of its entries leads to no message, where a Chunk Index that is reached at that offset names it
abbrev pub ListAstray : List ℕ → Request → ℕ → Spot → Type 0
ListAstray file request at spot = (f : ChunkIndexFields) → f.offset ≡ spot.chunk
    → NamesOffset file request.range at f spot.channel spot.list
    → LeadsNowhere file request.range at f spot.channel spot.list

abbrev pub ListShown : List ℕ → Request → ℕ → Spot → (List Shown × List Shown) → Result Bool IndexedRefused → Type 0
ListShown file request at spot shown (Ok true) = AddsEachOnce (IsLedBy file request spot) shown.0 shown.1
ListShown file request at spot shown (Ok false) = ListAstray file request at spot
ListShown file request at spot shown (Err why) = ListRefused file request at spot why
    ⊎ OverfullAt (IsLedOnChannel file request spot) (IsLedOnChannel file request spot) spot.list file shown.0 why

abbrev pub ShowsList : Option (List ℕ) → Request → ℕ → Spot → (List Shown × List Shown) → Result Bool IndexedRefused
    → Type 0
ShowsList told request at spot shown result = (file : List ℕ) → told ≡ Some file → length file ≡ request.len
    → KnowsSummaryChannels file request.tables.now.channels → ListShown file request at spot shown result

abbrev pub AsksList : Request → Spot → StoreState → StoreState → Type 0
AsksList request spot old new = (file : List ℕ) (chosen : ℕ → Bool) (cost : ℕ) → old.bytes ≡ Some file
    → Chooses request chosen → length file ≡ request.len → ListCost file request.range chosen spot cost
    → new.asked ≤ old.asked + cost

-- it is there, unless its messages aren't shown
abbrev pub IsListFound : List ℕ → Spot → Result Bool IndexedRefused → Type 0
IsListFound file spot (Ok it) = LacksIndex file spot.channel spot.list → ⊥
IsListFound file spot (Err why) = Unit {0}

abbrev pub FindsList : Option (List ℕ) → ℕ → Spot → Result Bool IndexedRefused → Type 0
FindsList told len spot result = (file : List ℕ) → told ≡ Some file → length file ≡ len → IsListFound file spot result
