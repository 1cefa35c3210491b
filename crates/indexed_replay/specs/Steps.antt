-- The steps of a replay by the index.
use Rattle.std.specs.Prelude.{◌≡◌, ◌≢◌, ◌⊎◌, ℕ, ◌+◌, ◌<◌, ◌≤◌, List, ◌++◌, length, take, drop, AllPairs, Bool, true, false, Option, Some, None, Result, Ok, Err, Vec}
use Rattle.mcap_io.specs.Stores.{StoreState}
use Rattle.mcap_io.specs.declared.outside.Failed.{Failed}
use Rattle.rec_index.specs.Records.{ShowsMessageIndex, message_index_opcode}
use Rattle.mcap_model.specs.declared.replay.Place.{Place}
use Rattle.mcap_model.specs.declared.replay.Range.{Range}
use Rattle.mcap_model.specs.declared.replay.Shown.{Shown}
use Rattle.mcap_model.specs.Places.{Has}
use Rattle.mcap_model.specs.Tops.{Top, top_bytes, opcode, declared_length, first_top}
use Rattle.mcap_model.specs.Made.{top}
use Rattle.mcap_model.specs.Scan.{InRange}
use Rattle.mcap_model.specs.Led.{IsThere, IsInChunk}
use Rattle.time_player.specs.Ordering.{led_as}
use Rattle.mcap_model.specs.declared.refusals.ReadingRefused.{ReadingRefused}
use Rattle.mcap_model.specs.declared.refusals.ReadingRefused.TheVariants as refusals
use Rattle.mcap_model.specs.declared.refusals.IndexedRefused.TheVariants as by_index
use Rattle.indexed_replay.specs.declared.fronts.Front.{Front}
use Rattle.indexed_replay.specs.declared.fronts.Front.TheVariants as fronts
use Rattle.indexed_replay.specs.declared.spots.Spot.{Spot}
use Rattle.indexed_replay.specs.Reaching.{LacksIndex, LacksMessage, IsTooLong, head_length}
use Rattle.indexed_replay.specs.HoldingSteps.{OverfullAt}
use Rattle.indexed_replay.specs.Costs.{message_cost, entries_cost, LacksList}

-- ---- the front of a record

-- A record of that opcode and of that length of content stands there, and no other. It begins with these bytes.
pub record FrontStands (file : List ℕ) (at : ℕ) (out : List ℕ) (op len : ℕ) : Type 0 where
  pub front : out ≡ take (length out) (drop at file)
  pub long : length out ≤ 9 + len
  pub whole : at + 9 + len ≤ length file
  pub op_is : opcode (drop at file) ≡ op
  pub len_is : declared_length (drop at file) ≡ len
  pub there : IsThere file at (first_top (drop at file))
  pub only : (t : Top) → IsThere file at t → t ≡ first_top (drop at file)

-- no record of so many bytes and of a valid opcode stands there
abbrev pub LacksRecord : List ℕ → ℕ → ℕ → Type 0
LacksRecord file at size = (t : Top) → IsThere file at t → size ≤ length (top_bytes t) → (t.op ≡ 0 → ⊥) → ⊥

-- what stands there, by so many bytes of its front
abbrev pub FrontIs : List ℕ → ℕ → List ℕ → Result Front Failed → Type 0
FrontIs file at out (Ok (fronts.Whole head)) = FrontStands file at out head.op head.len
FrontIs file at out (Ok fronts.Long) = IsTooLong file at
FrontIs file at out (Ok fronts.Absent) = LacksRecord file at (length out)
FrontIs file at out (Err why) = Unit {0}

-- the record lies within so many bytes, and has at least so many
abbrev pub RecordLiesWithin : ℕ → ℕ → ℕ → Result Front Failed → Type 0
RecordLiesWithin len at size (Ok (fronts.Whole head)) = (at + 9 + head.len ≤ len) × (size ≤ 9 + head.len)
RecordLiesWithin len at size (Ok fronts.Long) = Unit {0}
RecordLiesWithin len at size (Ok fronts.Absent) = Unit {0}
RecordLiesWithin len at size (Err why) = Unit {0}

-- where the store tells a file of that length
abbrev pub TellsRecordFront : Option (List ℕ) → ℕ → ℕ → List ℕ → Result Front Failed → Type 0
TellsRecordFront told len at out result =
    (file : List ℕ) → told ≡ Some file → length file ≡ len → FrontIs file at out result

-- ---- a message

abbrev pub place_in : ℕ → ℕ → Place
place_in chunk inner = record { top = chunk; inner = inner }

-- an entry of that channel leads to the message
pub record IsLedByEntry (file : List ℕ) (chunk channel : ℕ) (entry : ℕ × ℕ) (s : Shown) : Type 0 where
  pub place : s.place ≡ place_in chunk entry.1
  pub channel_is : s.channel ≡ channel
  pub time : s.log_time ≡ entry.0
  pub stands : IsInChunk file chunk (led_as s)

-- just the messages with that property are added, each once
pub record AddsEachOnce (P : Shown → Type 0) (old new : List Shown) : Type 0 where
  pub more : List Shown
  pub added : new ≡ old ++ more
  pub are : (s : Shown) → Has more s → P s
  pub all : (s : Shown) → P s → Has more s
  pub once : AllPairs (λ s r. s ≢ r) more

-- why the message of an entry can't be read
abbrev pub EntryRefused : List ℕ → ℕ → ℕ × ℕ → ReadingRefused → Type 0
EntryRefused file chunk entry (refusals.Fault faults) = Unit {0}
EntryRefused file chunk entry (refusals.Grammar offset rule) = ⊥
EntryRefused file chunk entry (refusals.Compressed offset name) = ⊥
EntryRefused file chunk entry (refusals.Limit offset) = (offset ≡ chunk + 49 + entry.1) × IsTooLong file offset
EntryRefused file chunk entry refusals.Memory = Unit {0}

-- the message of an entry is added; or none stands there; or why it can't be read, or isn't, since the data is too much
abbrev pub MessageIs : List ℕ → Spot → ℕ × ℕ → (List Shown × List Shown) → Result Bool ReadingRefused → Type 0
MessageIs file spot entry shown (Ok true) =
    AddsEachOnce (IsLedByEntry file spot.chunk spot.channel entry) shown.0 shown.1
MessageIs file spot entry shown (Ok false) = LacksMessage file spot.chunk spot.channel entry
MessageIs file spot entry shown (Err why) = EntryRefused file spot.chunk entry why
    ⊎ OverfullAt (IsLedByEntry file spot.chunk spot.channel entry) (IsLedByEntry file spot.chunk spot.channel entry)
    spot.list file shown.0 (by_index.Refused why)

abbrev pub TellsMessage : Option (List ℕ) → ℕ → Spot → ℕ × ℕ → (List Shown × List Shown) → Result Bool ReadingRefused
    → Type 0
TellsMessage told len spot entry shown result =
    (file : List ℕ) → told ≡ Some file → length file ≡ len → MessageIs file spot entry shown result

abbrev pub AsksMessage : ℕ → ℕ → StoreState → StoreState → Type 0
AsksMessage len at old new =
    (file : List ℕ) → old.bytes ≡ Some file → length file ≡ len → new.asked ≤ old.asked + message_cost file at

-- ---- the entries of a Message Index

-- one of the entries is in the range and leads to the message
pub record IsLedInRange (file : List ℕ) (range : Range) (spot : Spot) (entries : List (ℕ × ℕ)) (s : Shown)
    : Type 0 where
  pub entry : Has {X = ℕ × ℕ} entries (s.log_time, s.place.inner)
  pub in_range : InRange range s.log_time
  pub channel_is : s.channel ≡ spot.channel
  pub stands : IsInChunk file spot.chunk (led_as s)

-- one of the entries is in the range and leads to no message
abbrev pub LacksListed : List ℕ → Range → Spot → List (ℕ × ℕ) → Type 0
LacksListed file range spot entries =
    (entry : ℕ × ℕ) × Has entries entry × InRange range entry.0 × LacksMessage file spot.chunk spot.channel entry

-- one of them can't be read, for that reason
abbrev pub EntriesRefused : List ℕ → Range → Spot → List (ℕ × ℕ) → ReadingRefused → Type 0
EntriesRefused file range spot entries why =
    (entry : ℕ × ℕ) × Has entries entry × InRange range entry.0 × EntryRefused file spot.chunk entry why

-- the messages of the entries are added; or one of them isn't there; or why one can't be read, or isn't
abbrev pub EntriesShown : List ℕ → Range → Spot → List (ℕ × ℕ) → (List Shown × List Shown) → Result Bool ReadingRefused
    → Type 0
EntriesShown file range spot entries shown (Ok true) =
    AddsEachOnce (IsLedInRange file range spot entries) shown.0 shown.1
EntriesShown file range spot entries shown (Ok false) = LacksListed file range spot entries
EntriesShown file range spot entries shown (Err why) = EntriesRefused file range spot entries why
    ⊎ OverfullAt (IsLedInRange file range spot entries) (IsLedInRange file range spot entries) spot.list file shown.0
    (by_index.Refused why)

abbrev pub TellsEntries : Option (List ℕ) → ℕ → Range → Spot → List (ℕ × ℕ) → (List Shown × List Shown)
    → Result Bool ReadingRefused → Type 0
TellsEntries told len range spot entries shown result =
    (file : List ℕ) → told ≡ Some file → length file ≡ len → EntriesShown file range spot entries shown result

-- an entry doesn't come behind another, by offset and then by time
abbrev pub EntryNotBehind : ℕ × ℕ → ℕ × ℕ → Type 0
EntryNotBehind e d = (e.1 < d.1) ⊎ ((e.1 ≡ d.1) × (e.0 ≤ d.0))

abbrev pub EntriesAscend : List (ℕ × ℕ) → Type 0
EntriesAscend entries = AllPairs EntryNotBehind entries

-- These are the entries in the range, in some order, and reading their messages asks for what that of all entries does.
pub record AreTimely (range : Range) (entries timely : List (ℕ × ℕ)) : Type 0 where
  pub are : (entry : ℕ × ℕ) → Has {X = ℕ × ℕ} timely entry → Has {X = ℕ × ℕ} entries entry
  pub all : (entry : ℕ × ℕ) → Has {X = ℕ × ℕ} entries entry → InRange range entry.0 → Has {X = ℕ × ℕ} timely entry
  pub cost : (file : List ℕ) (chunk : ℕ) → entries_cost file range chunk timely ≤ entries_cost file range chunk entries

abbrev pub AsksEntries : ℕ → Range → ℕ → List (ℕ × ℕ) → StoreState → StoreState → Type 0
AsksEntries len range chunk entries old new = (file : List ℕ) → old.bytes ≡ Some file → length file ≡ len
    → new.asked ≤ old.asked + entries_cost file range chunk entries

-- ---- a Message Index

-- the content of the Message Index that stands there, or none does
abbrev pub ListIs : {Y : Type 0} → List ℕ → ℕ → Result (Option (Vec ℕ Y)) ReadingRefused → Type 0
ListIs file at (Ok (Some content)) = IsThere file at (top message_index_opcode content.items)
ListIs file at (Ok None) = LacksList file at
ListIs file at (Err (refusals.Fault faults)) = Unit {0}
ListIs file at (Err (refusals.Grammar offset rule)) = ⊥
ListIs file at (Err (refusals.Compressed offset name)) = ⊥
ListIs file at (Err (refusals.Limit offset)) = (offset ≡ at) × IsTooLong file offset
ListIs file at (Err refusals.Memory) = Unit {0}

abbrev pub TellsList : {Y : Type 0} → Option (List ℕ) → ℕ → ℕ → Result (Option (Vec ℕ Y)) ReadingRefused → Type 0
TellsList told len at result = (file : List ℕ) → told ≡ Some file → length file ≡ len → ListIs file at result

-- the content of the Message Index of that channel that stands there, or none does
abbrev pub IndexIs : {Y : Type 0} → List ℕ → Spot → Result (Option (Vec ℕ Y)) ReadingRefused → Type 0
IndexIs file spot (Ok (Some content)) = IsThere file spot.list (top message_index_opcode content.items)
    × ((entries : List (ℕ × ℕ)) × ShowsMessageIndex content.items spot.channel entries)
IndexIs file spot (Ok None) = LacksIndex file spot.channel spot.list
IndexIs file spot (Err (refusals.Fault faults)) = Unit {0}
IndexIs file spot (Err (refusals.Grammar offset rule)) = ⊥
IndexIs file spot (Err (refusals.Compressed offset name)) = ⊥
IndexIs file spot (Err (refusals.Limit offset)) = (offset ≡ spot.list) × IsTooLong file offset
IndexIs file spot (Err refusals.Memory) = Unit {0}

abbrev pub TellsIndex : {Y : Type 0} → Option (List ℕ) → ℕ → Spot → Result (Option (Vec ℕ Y)) ReadingRefused → Type 0
TellsIndex told len spot result = (file : List ℕ) → told ≡ Some file → length file ≡ len → IndexIs file spot result

-- from the one count on no more was asked for than the Message Index that stands there, or the head of what does
pub record ListAsked (file : List ℕ) (at before now : ℕ) : Type 0 where
  pub there : (t : Top) → IsThere file at t → t.op ≡ message_index_opcode → now ≤ before + length (top_bytes t)
  pub none : LacksList file at → now ≤ before + head_length

abbrev pub AsksListAt : ℕ → ℕ → StoreState → StoreState → Type 0
AsksListAt len at old new =
    (file : List ℕ) → old.bytes ≡ Some file → length file ≡ len → ListAsked file at old.asked new.asked
