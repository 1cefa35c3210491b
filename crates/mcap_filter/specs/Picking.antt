-- What is picked of records as they are read, in a new file that is being written.
use Rattle.std.specs.Prelude.{◌≡◌, ◌⊎◌, ℕ, List, [], ◌∷◌, ◌++◌, fold, filter, find, Bool, true, false, ◌==◌, ◌||◌, is_some, Option, Some, None, Result, Ok, Err}
use Rattle.std.specs.List.{AllZip}
use Rattle.rec_data.specs.declared.owned.Rec.{Rec}
use Rattle.rec_data.specs.declared.owned.Rec.TheVariants.{Schema, Channel, Message, Extra}
use Rattle.rec_data.specs.Records.{schema_opcode, channel_opcode, ShowsChannel}
use Rattle.mcap_io.specs.Outside.{SourceState, LiveState}
use Rattle.mcap_model.specs.declared.options.FileOptions.{FileOptions}
use Rattle.mcap_model.specs.declared.ends.Stop.{Stop}
use Rattle.mcap_model.specs.declared.table.Declared.{Declared}
use Rattle.mcap_model.specs.Declarations.{SomeFirst}
use Rattle.mcap_model.specs.Fields.{ChannelFields}
use Rattle.mcap_model.specs.Places.{At, Each}
use Rattle.mcap_model.specs.Tops.{Top, is_flat_kind}
use Rattle.mcap_model.specs.Made.{top}
use Rattle.mcap_model.specs.History.{kept_with}
use Rattle.mcap_model.specs.Written.{IsRec}
use Rattle.mcap_scan.specs.declared.flat_reader.FlatReader.{FlatReader}
use Rattle.chunk_writer.specs.declared.phase.Phase.TheVariants as phases
use Rattle.chunk_writer.specs.Scribes.{phase_of}
use Rattle.record_keeping.specs.declared.keeping.Keeping.{Keeping}
use Rattle.record_keeping.specs.declared.ending.KeptCounts.{KeptCounts}
use Rattle.record_keeping.specs.declared.ending.Over.{Over}
use Rattle.record_keeping.specs.Ending.{EndsFile}
use Rattle.record_keeping.specs.Keeping.{KeepingStandsFor, HasWritten, AddsFlatRecords, extras_of, is_declared, declared_with}
use Rattle.record_keeping.specs.Readings.{ReadSoFar, ReadToEnd, ReadStopped}
use Rattle.mcap_filter.specs.declared.answers.Picked.{Picked}
use Rattle.mcap_filter.specs.declared.answers.PickRefused.{PickRefused}
use Rattle.mcap_filter.specs.declared.answers.PickRefused.TheVariants as refusals
use Rattle.mcap_filter.specs.declared.choices.Choices.{Choices}
use Rattle.mcap_model.specs.Needed.{is_schema_of, is_channel_of}
use Rattle.mcap_filter.specs.Picked.{Asking, is_topic, is_on, filtered}
use denote.Ref.{Bor}

-- ---- histories in which what is named stands

-- what a record names stands in the history
abbrev pub is_complete : List Rec → Rec → Bool
is_complete history (Schema id schema) = true
is_complete history (Channel id schema topic encoding metadata) =
    (schema == 0) || is_some (find (is_schema_of schema) history)
is_complete history (Message channel sequence log_time publish_time payload) =
    is_some (find (is_channel_of channel) history)
is_complete history (Extra op content) = true

abbrev pub Complete : List Rec → Type 0
Complete history = Each (λ (r : Rec). is_complete history r ≡ true) history

-- ---- what was declared

-- the entries are the first Schemas of the history, and it has no others
pub record TableFinds (table : List Declared) (history : List Rec) : Type 0 where
  pub are : (k : ℕ) (d : Declared) → At table k d
      → (r : Rec) × (find (is_schema_of d.id) history ≡ Some r) × IsRec (top schema_opcode d.content) r
  pub none : (id : ℕ) → ((k : ℕ) (d : Declared) → At table k d → d.id ≡ id → ⊥)
      → find (is_schema_of id) history ≡ None

-- a declaration was noted, if it is the first of its id
abbrev pub Notes : List Declared → List Declared → ℕ → List ℕ → Type 0
Notes old new id content = (SomeFirst old id × (new ≡ old))
    ⊎ (((k : ℕ) (d : Declared) → At old k d → d.id ≡ id → ⊥)
    × (new ≡ old ++ (record { id = id; content = content }) ∷ []))

-- The first Channels of the history are wanted, where they are on the topic that is asked for, or their ids are passed over; and it
-- has no others.
pub record ChoicesFind (asked : Option (List ℕ)) (c : Choices) (history : List Rec) : Type 0 where
  pub are : (k : ℕ) (d : Declared) → At c.wanted k d
      → (r : Rec) × (find (is_channel_of d.id) history ≡ Some r) × IsRec (top channel_opcode d.content) r
      × (is_on asked (Some r) ≡ true)
  pub passed_over : (id : ℕ) → is_declared c.passed.keys id ≡ true
      → (r : Rec) × (find (is_channel_of id) history ≡ Some r) × (is_on asked (Some r) ≡ false)
  pub none : (id : ℕ) → ((k : ℕ) (d : Declared) → At c.wanted k d → d.id ≡ id → ⊥)
      → is_declared c.passed.keys id ≡ false → find (is_channel_of id) history ≡ None

-- A Channel was noted, if it is the first of its id: as one that is wanted, or as one that is passed over.
abbrev pub Chosen : Option (List ℕ) → Choices → Choices → ℕ → List ℕ → List ℕ → Type 0
Chosen asked old new id content topic =
    (SomeFirst old.wanted id × (new.wanted ≡ old.wanted) × (new.passed.keys ≡ old.passed.keys))
    ⊎ (((k : ℕ) (d : Declared) → At old.wanted k d → d.id ≡ id → ⊥)
    × (((is_topic asked topic ≡ true) × (is_declared old.passed.keys id ≡ true) × (new.wanted ≡ old.wanted)
    × (new.passed.keys ≡ old.passed.keys))
    ⊎ (((is_topic asked topic ≡ true) × (is_declared old.passed.keys id ≡ false)
    × (new.wanted ≡ old.wanted ++ (record { id = id; content = content }) ∷ []) × (new.passed.keys ≡ old.passed.keys))
    ⊎ ((is_topic asked topic ≡ false) × (new.wanted ≡ old.wanted)
    × (new.passed.keys ≡ declared_with old.passed.keys id)))))

abbrev pub Chooses : Option (List ℕ) → Choices → Choices → ℕ → List ℕ → List ℕ → Type 0
Chooses asked old new id content topic = (new.schemas ≡ old.schemas) × Chosen asked old new id content topic

-- ---- what was picked so far

-- The scribe stands for these extras and what is written of this history; while it goes on, the choices are the history's.
pub record PickingStands {L : Type 0} (seen : L → LiveState) (a : Asking) (options : FileOptions) (extras : List Top)
    (opened : LiveState) (history : List Rec) (k : Keeping L) (c : Choices) : Type 0 where
  pub keeps : KeepingStandsFor seen options extras opened (filtered a history) k
  pub schemas : phase_of k.scribe ≡ phases.Going → TableFinds c.schemas history
  pub channels : phase_of k.scribe ≡ phases.Going → ChoicesFind a.topic c history

-- a keeping with its choices
pub record Picking (L : Type 0) : Type 0 where
  pub keeping : Keeping L
  pub choices : Choices

abbrev pub picking : {L : Type 0} → Keeping L → Choices → Picking L
picking keeping choices = record { keeping = keeping; choices = choices }

-- the second one stands for what one record more shows or is
abbrev pub PicksOne : {L : Type 0} → (L → LiveState) → Asking → Picking L → Picking L → Option (Bor (List ℕ)) → Top
    → Type 0
PicksOne seen a before after frame t = (records : List Rec) → AllZip IsRec (filter is_flat_kind (t ∷ [])) records
    → (options : FileOptions) (extras : List Top) (opened : LiveState) (history : List Rec) → Complete history
    → PickingStands seen a options extras opened history before.keeping before.choices
    → PickingStands seen a options (extras ++ extras_of frame t) opened (fold kept_with history records)
    after.keeping after.choices

-- the same, wherever the record stands
abbrev pub PicksAnywhere : {L : Type 0} → (L → LiveState) → Asking → Picking L → Picking L → Top → Type 0
PicksAnywhere seen a before after t = (frame : Option (Bor (List ℕ))) → PicksOne seen a before after frame t

-- ---- what a message needs

-- the Schema of that id in the table, if a Channel has one
abbrev pub IsDeclared : List Declared → ℕ → List Top → Type 0
IsDeclared table id declared = ((id ≡ 0) × (declared ≡ []))
    ⊎ (((id ≡ 0) → ⊥) × ((((k : ℕ) (d : Declared) → At table k d → d.id ≡ id → ⊥) × (declared ≡ []))
    ⊎ ((k : ℕ) × (d : Declared) × At table k d × (d.id ≡ id) × (declared ≡ top schema_opcode d.content ∷ []))))

abbrev pub PutsSchema : {L : Type 0} → (L → LiveState) → Keeping L → Keeping L → List Declared → ℕ → Type 0
PutsSchema seen old new table id = (declared : List Top) × IsDeclared table id declared
    × AddsFlatRecords seen old new declared

-- a Channel of that content was put, behind the Schema of that id
abbrev pub PutsNeeds : {L : Type 0} → (L → LiveState) → Keeping L → Keeping L → List Declared → ℕ → List ℕ → Type 0
PutsNeeds seen old new table id channel = (declared : List Top) × IsDeclared table id declared
    × AddsFlatRecords seen old new (declared ++ top channel_opcode channel ∷ [])

-- a content that shows a Channel was put behind its Schema
pub record PutsShown {L : Type 0} (seen : L → LiveState) (old new : Keeping L) (table : List Declared)
    (content : List ℕ) : Type 0 where
  pub id : ℕ
  pub fields : ChannelFields
  pub shown : ShowsChannel content id fields
  pub puts : PutsNeeds seen old new table fields.schema content

-- That; or the Channel of that id was put before; or the content shows none.
abbrev pub PutsChannel : {L : Type 0} → (L → LiveState) → Keeping L → Keeping L → List Declared → ℕ → List ℕ → Type 0
PutsChannel seen old new table id content = ((is_declared old.channels.keys id ≡ true) × (new ≡ old))
    ⊎ (PutsShown seen old new table content
    ⊎ ((other : ℕ) (f : ChannelFields) → ShowsChannel content other f → ⊥))

-- ---- the walk over a source

-- the new file was ended, and this is answered; or the writer stopped
abbrev pub FinishesPicked : {L : Type 0} → (L → LiveState) → Keeping L → LiveState → Result Picked PickRefused → Type 0
FinishesPicked seen k stored (Ok p) = (c : KeptCounts) × EndsFile seen k stored (Ok c) × (p.messages ≡ c.messages)
    × (p.records ≡ c.records)
FinishesPicked seen k stored (Err (refusals.Refused why)) = ⊥
FinishesPicked seen k stored (Err (refusals.Stopped stop)) = EndsFile seen k stored (Err stop)

-- how the new file is written, what is picked for it, and the states of the source and of the store before
pub record Start : Type 0 where
  pub asking : Asking
  pub options : FileOptions
  pub before : SourceState
  pub opened : LiveState

abbrev pub start : Asking → FileOptions → SourceState → LiveState → Start
start asking options before opened =
    record { asking = asking; options = options; before = before; opened = opened }

-- a keeping and choices stand for extras and what is written of a history
abbrev pub stands_picked : {L : Type 0} → (L → LiveState) → Start → Keeping L → Choices → List Top → List Rec → Type 0
stands_picked seen from k c extras history =
    PickingStands seen from.asking from.options extras from.opened history k c

-- so does a keeping
abbrev pub stands_written : {L : Type 0} → (L → LiveState) → Start → Keeping L → List Top → List Rec → Type 0
stands_written seen from k extras history =
    KeepingStandsFor seen from.options extras from.opened (filtered from.asking history) k

-- what is asked for of the records that were given was picked
abbrev pub PicksSoFar : {L : Type 0} → (L → LiveState) → Start → SourceState → FlatReader → Keeping L → Choices
    → Type 0
PicksSoFar seen from now flat k c =
    ReadSoFar (stands_picked seen from k c) from.options.profile from.before now flat

-- the writer stopped at what one of the records shows or holds
abbrev pub IsCut : {L : Type 0} → (L → LiveState) → Start → SourceState → Keeping L → Stop → Type 0
IsCut seen from now k stop = ReadStopped (stands_written seen from k)
    (λ first. HasWritten seen from.options from.opened k (filtered from.asking first)) from.options.profile from.before now
    × (phase_of k.scribe ≡ phases.Stopped stop)

abbrev pub PicksOn : {L : Type 0} → (L → LiveState) → Start → SourceState → FlatReader → Keeping L → Choices
    → Result Over Stop → Type 0
PicksOn seen from now flat k c (Ok over) =
    ReadToEnd (stands_picked seen from k c) from.options.profile from.before now flat.reader over
PicksOn seen from now flat k c (Err stop) = IsCut seen from now k stop
