-- For which records a reader stands, and what its next step adds.
use Rattle.std.specs.Prelude.{◌≡◌, ◌⊎◌, ℕ, ◌+◌, ◌-◌, ◌^◌, ◌<◌, ◌≤◌, ◌==◌, min, if◌then◌else◌, List, [], ◌∷◌, ◌++◌, Option, Some, None}
use Rattle.mcap_io.specs.Outside.{SourceState}
use Rattle.mcap_io.specs.Rooms.{held_in}
use Rattle.mcap_wire.specs.Limits.{file_limit}
use Rattle.rec_data.specs.Records.{data_end_opcode}
use Rattle.mcap_model.specs.Tops.{Top, offset_behind, flat}
use Rattle.mcap_model.specs.Rules.{HasDataEnd}
use Rattle.mcap_model.specs.Kept.{reading_limits, Good, at_end}
use Rattle.mcap_model.specs.declared.refusals.ReadingRefused.{ReadingRefused}
use Rattle.mcap_model.specs.declared.refusals.ReadingRefused.TheVariants as refusals
use Rattle.mcap_scan.specs.declared.answers.Step.{Step}
use Rattle.mcap_scan.specs.declared.answers.Step.TheVariants as steps
use Rattle.mcap_scan.specs.declared.reader.Stage.{Stage}
use Rattle.mcap_scan.specs.declared.reader.Stage.TheVariants as stages
use Rattle.mcap_scan.specs.declared.reader.Reader.{Reader}
use Rattle.mcap_model.specs.declared.tables.Tables.{Tables}
use Rattle.mcap_model.specs.declared.tops.Judged.{Judged}
use Rattle.mcap_model.specs.declared.tops.Judged.TheVariants as judged
use Rattle.mcap_model.specs.Declarations.{TablesOf}
use Rattle.mcap_model.specs.Made.{top}
use Rattle.mcap_scan.specs.Sources.{ReadFromFront}
use denote.Ref.{Bor}
use Rattle.mcap_scan.specs.RefusedReadings.{HaltsSo, RefusalStands}

-- ---- a reading that goes on, or came to its Data End

-- nothing was read
pub record IsFresh (tables : Tables) (offset : ℕ) (before now : SourceState) (tops : List Top) : Type 0 where
  pub none : tops ≡ []
  pub place : offset ≡ 8
  pub tables_are : TablesOf [] tables
  pub unread : now ≡ before

-- the records were taken, and there is no Data End among them
pub record IsUnfinished (tables : Tables) (offset : ℕ) (before now : SourceState) (tops : List Top) : Type 0 where
  pub good : Good reading_limits tops
  pub unended : HasDataEnd tops → ⊥
  pub place : offset ≡ offset_behind tops
  pub tables_are : TablesOf (flat tops) tables
  pub still : now.faults ≡ before.faults
  pub read : ReadFromFront before now tops

-- the Header was given, and no Data End
pub record IsInside (tables : Tables) (offset : ℕ) (before now : SourceState) (tops : List Top) : Type 0 where
  pub some : tops ≡ [] → ⊥
  pub reading : IsUnfinished tables offset before now tops

-- the records were given, the last a Data End, and nothing behind it was read
pub record IsEnded (tables : Tables) (offset : ℕ) (before now : SourceState) (tops : List Top) : Type 0 where
  pub good : Good reading_limits tops
  pub ended : HasDataEnd tops
  pub place : offset ≡ offset_behind tops
  pub tables_are : TablesOf (flat tops) tables
  pub still : now.faults ≡ before.faults
  pub read : ReadFromFront before now tops

-- ---- readers

abbrev pub StageStands : Stage → Tables → ℕ → SourceState → SourceState → List Top → Type 0
StageStands stages.Fresh tables offset before now tops = IsFresh tables offset before now tops
StageStands stages.Inside tables offset before now tops = IsInside tables offset before now tops
StageStands stages.Ended tables offset before now tops = IsEnded tables offset before now tops
StageStands (stages.Stopped why) tables offset before now tops = RefusalStands why before now tops

-- A reader stands for these records of a source, as this one was when the reader was new and as it is by now.
abbrev pub Stands : Reader → SourceState → SourceState → List Top → Type 0
Stands reader before now tops = StageStands reader.stage reader.tables reader.offset before now tops

-- the content of the record that was given last
abbrev pub content_of : Reader → List ℕ
content_of reader = held_in reader.room

-- the declarations so far
abbrev pub tables_of : Reader → Tables
tables_of reader = reader.tables

-- where the next record stands
abbrev pub next_offset : Reader → ℕ
next_offset reader = reader.offset

-- A record that is given moves a reader on, and no further than the limit on files: so a reading ends.
abbrev pub Moves : ℕ → ℕ → Step → Type 0
Moves old new (steps.Record op offset) = (old < new) × (new ≤ file_limit)
Moves old new (steps.End offset) = Unit {0}
Moves old new steps.Refused = Unit {0}

-- no refusal is kept
abbrev pub IsGoing : Stage → Type 0
IsGoing stages.Fresh = Unit {0}
IsGoing stages.Inside = Unit {0}
IsGoing stages.Ended = Unit {0}
IsGoing (stages.Stopped why) = ⊥

-- the record that a step gives is one more
pub record Gives (reader : Reader) (before now : SourceState) (tops : List Top) (op offset : ℕ) : Type 0 where
  pub place : offset ≡ offset_behind tops
  pub stands : Stands reader before now (tops ++ top op (content_of reader) ∷ [])
  pub going : IsGoing reader.stage

-- the Data End was given before
pub record FindsEnd (reader : Reader) (before now : SourceState) (tops : List Top) (offset : ℕ) : Type 0 where
  pub is : IsEnded reader.tables offset before now tops
  pub stage : reader.stage ≡ stages.Ended
  pub stands : Stands reader before now tops
  pub halts : HaltsSo before now tops (at_end offset)

-- the reader keeps a refusal
pub record Refuses (reader : Reader) (before now : SourceState) (tops : List Top) : Type 0 where
  pub why : ReadingRefused
  pub stage : reader.stage ≡ stages.Stopped why
  pub stands : RefusalStands why before now tops

abbrev pub Advanced : Reader → SourceState → SourceState → List Top → Step → Type 0
Advanced reader before now tops (steps.Record op offset) = Gives reader before now tops op offset
Advanced reader before now tops (steps.End offset) = FindsEnd reader before now tops offset
Advanced reader before now tops steps.Refused = Refuses reader before now tops

-- the Data End was given, or the reading was refused
abbrev pub IsOver : Stage → Type 0
IsOver stages.Fresh = ⊥
IsOver stages.Inside = ⊥
IsOver stages.Ended = Unit {0}
IsOver (stages.Stopped why) = Unit {0}

-- What the judging of a record at that offset refuses. The name of a compression is copied.
abbrev pub RefusedAt : ℕ → Judged → Option ReadingRefused → Type 0
RefusedAt at judged.Fits why = why ≡ None
RefusedAt at (judged.Breaks rule) why = why ≡ Some (refusals.Grammar at rule)
RefusedAt at (judged.Compressed name) why =
    (why ≡ Some (refusals.Compressed at name.now)) ⊎ (why ≡ Some refusals.Memory)
RefusedAt at judged.Memory why = why ≡ Some refusals.Memory

-- What a record that was taken at that offset, or its refusal, makes of the offset and the stage.
abbrev pub Given : ℕ → ℕ → ℕ → Stage → ℕ → Option ReadingRefused → Step → Type 0
Given at len offset stage op None step = (step ≡ steps.Record op at)
    × (offset ≡ min (min (at + 9) (2 ^ 64 - 1) + len) (2 ^ 64 - 1))
    × (stage ≡ (if op == data_end_opcode then stages.Ended else stages.Inside))
Given at len offset stage op (Some why) step = (step ≡ steps.Refused) × (stage ≡ stages.Stopped why)

-- the refusal that a reader keeps
abbrev pub KeptBy : Reader → Option (Bor ReadingRefused) → Type 0
KeptBy reader (Some why) = reader.stage ≡ stages.Stopped why.now
KeptBy reader None = (why : ReadingRefused) → reader.stage ≡ stages.Stopped why → ⊥

-- that refusal, handed out
abbrev pub HandsOut : Reader → Option ReadingRefused → Type 0
HandsOut reader (Some why) = reader.stage ≡ stages.Stopped why
HandsOut reader None = (why : ReadingRefused) → reader.stage ≡ stages.Stopped why → ⊥

-- the Data End was given, or the reading was refused
abbrev pub IsDone : Reader → Type 0
IsDone reader = IsOver reader.stage

-- no record is given
abbrev pub IsLast : Step → Type 0
IsLast (steps.Record op offset) = ⊥
IsLast (steps.End offset) = Unit {0}
IsLast steps.Refused = Unit {0}
