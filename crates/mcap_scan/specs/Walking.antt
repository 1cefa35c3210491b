-- For which records a flat reader stands, and what its next step adds. Flat: all records of a file in one row, the chunks themselves
-- too; `flat` of mcap_model drops these and other kinds.
use Rattle.std.specs.Prelude.{◌≡◌, ℕ, ◌+◌, ◌-◌, ◌*◌, ◌^◌, ◌<◌, List, [], ◌∷◌, ◌++◌, true, false, if◌then◌else◌, Option, Some, None}
use Rattle.mcap_io.specs.Outside.{SourceState}
use Rattle.mcap_wire.specs.Layout.{framed, part}
use Rattle.mcap_wire.specs.Limits.{file_limit}
use Rattle.mcap_model.specs.declared.replay.Place.{Place}
use Rattle.mcap_model.specs.declared.tables.Tables.{Tables}
use Rattle.mcap_model.specs.Tops.{Top, Placed, records_in, placed_inside}
use Rattle.mcap_model.specs.WalkedRecords.{walked}
use Rattle.mcap_model.specs.Rules.{V6, V10}
use Rattle.mcap_model.specs.Made.{top}
use Rattle.mcap_scan.specs.Scanning.{Stands, content_of, tables_of, next_offset, IsGoing, FindsEnd, Refuses, IsDone}
use Rattle.mcap_scan.specs.declared.flat_reader.FlatReader.{FlatReader}
use Rattle.mcap_scan.specs.declared.flat_reader.FlatStep.{FlatStep}
use Rattle.mcap_scan.specs.declared.flat_reader.FlatStep.TheVariants as steps
use denote.Ref.{Bor}

-- the content of the record that was given last
abbrev pub flat_content : FlatReader → List ℕ
flat_content flat = part flat.lo flat.hi (content_of flat.reader)

-- the same with the head before it, where the record stands inside a chunk
abbrev pub flat_frame : FlatReader → Option (List ℕ)
flat_frame flat = if flat.inside then Some (part (flat.lo - 9) flat.hi (content_of flat.reader)) else None

-- that, lent
abbrev pub IsHeldFrame : FlatReader → Option (Bor (List ℕ)) → Type 0
IsHeldFrame flat (Some bytes) = flat_frame flat ≡ Some bytes.now
IsHeldFrame flat None = flat_frame flat ≡ None

-- the declarations so far, those of the whole chunk too whose records are being given
abbrev pub flat_tables : FlatReader → Tables
flat_tables flat = tables_of flat.reader

-- what wasn't given of the records of a chunk
abbrev pub rest_of : FlatReader → List ℕ
rest_of flat = part flat.at flat.to (content_of flat.reader)

-- the records that are due before more is read, where they stand
abbrev pub ahead_of : FlatReader → List Placed
ahead_of flat = placed_inside flat.top (flat.at - flat.from) (records_in (rest_of flat))

-- all of these records but the last were given, with those inside them
pub record ReachesLast (tops : List Top) (given : List Placed) : Type 0 where
  pub earlier : List Top
  pub last : Top
  pub are : tops ≡ earlier ++ last ∷ []
  pub behind : List Placed
  pub split : given ≡ walked earlier ++ behind

-- A flat reader stands for these records of a source, as this one was when the reader was new and as it is by now: they were
-- read, and of all that stand in their places these were given. Where some are due, no refusal is kept, and they stand inside the
-- last of the records.
pub record FlatStands (flat : FlatReader) (before now : SourceState) (tops : List Top) (given : List Placed)
    : Type 0 where
  pub stands : Stands flat.reader before now tops
  pub all : walked tops ≡ given ++ ahead_of flat
  pub going : (ahead_of flat ≡ [] → ⊥) → IsGoing flat.reader.stage
  pub inside : (ahead_of flat ≡ [] → ⊥) → ReachesLast tops given

-- the record that is given at a place
abbrev pub placed_at : Place → ℕ → List ℕ → Placed
placed_at place op content = record { place = place; top = top op content }

-- A step gives the next record, which is whole and keeps the rules on contents. What was read before stays read, and the record
-- is the last of what is read by now, or stands inside that.
pub record FlatGives (flat : FlatReader) (before now : SourceState) (was : List Top) (given : List Placed) (op : ℕ)
    (place : Place) : Type 0 where
  pub tops : List Top
  pub more : List Top
  pub grown : tops ≡ was ++ more
  pub last : ReachesLast tops given
  pub stands : FlatStands flat before now tops (given ++ placed_at place op (flat_content flat) ∷ [])
  pub v6 : V6 (top op (flat_content flat))
  pub v10 : V10 (top op (flat_content flat))
  pub frame : (bytes : List ℕ) → flat_frame flat ≡ Some bytes → bytes ≡ framed op (flat_content flat)
  -- a record that is lent with its head stands inside the last one of those that were read before
  pub within : flat.inside ≡ true → more ≡ []
  -- any other was read by this step, and stands at top level
  pub alone : flat.inside ≡ false → more ≡ top op (flat_content flat) ∷ []
  pub going : IsGoing flat.reader.stage

-- the Data End was given, and all was; no more is read
pub record FlatFinds (flat : FlatReader) (before now : SourceState) (was : List Top) (given : List Placed) (offset : ℕ)
    : Type 0 where
  pub tops : List Top
  pub same : tops ≡ was
  pub finds : FindsEnd flat.reader before now tops offset
  pub whole : given ≡ walked tops
  pub stands : FlatStands flat before now tops given

-- the reader keeps a refusal, and all that is good was given; no more is read
pub record FlatRefuses (flat : FlatReader) (before now : SourceState) (was : List Top) (given : List Placed)
    : Type 0 where
  pub tops : List Top
  pub same : tops ≡ was
  pub refuses : Refuses flat.reader before now tops
  pub whole : given ≡ walked tops
  pub stands : FlatStands flat before now tops given

abbrev pub FlatAdvanced : FlatReader → SourceState → SourceState → List Top → List Placed → FlatStep → Type 0
FlatAdvanced flat before now was given (steps.Record op place) = FlatGives flat before now was given op place
FlatAdvanced flat before now was given (steps.End offset) = FlatFinds flat before now was given offset
FlatAdvanced flat before now was given steps.Refused = FlatRefuses flat before now was given

-- how much a reader can still go on, so that a reading ends
abbrev pub flat_left : FlatReader → ℕ
flat_left flat = (file_limit - next_offset flat.reader) * 2 ^ 64 + (flat.to - flat.at)

-- a record that is given moves the reader on
abbrev pub FlatMoves : ℕ → ℕ → FlatStep → Type 0
FlatMoves old new (steps.Record op place) = new < old
FlatMoves old new (steps.End offset) = Unit {0}
FlatMoves old new steps.Refused = Unit {0}

-- no record is given
abbrev pub IsFlatLast : FlatStep → Type 0
IsFlatLast (steps.Record op place) = ⊥
IsFlatLast (steps.End offset) = Unit {0}
IsFlatLast steps.Refused = Unit {0}

-- all was given, and the Data End was, or the reading was refused
abbrev pub IsFlatDone : FlatReader → Type 0
IsFlatDone flat = IsDone flat.reader × (ahead_of flat ≡ [])

-- ---- steps within

-- the reader gives the first of the records that were due
pub record GivesInside (old new : FlatReader) (op : ℕ) (place : Place) : Type 0 where
  pub same : new.reader ≡ old.reader
  pub due : ahead_of old ≡ placed_at place op (flat_content new) ∷ ahead_of new
  pub frame : (bytes : List ℕ) → flat_frame new ≡ Some bytes → bytes ≡ framed op (flat_content new)
  pub lent : new.inside ≡ true
  pub less : new.to - new.at < old.to - old.at

-- or none is due, and all is as it was
abbrev pub StepsInside : FlatReader → FlatReader → Option FlatStep → Type 0
StepsInside old new (Some (steps.Record op place)) = GivesInside old new op place
StepsInside old new (Some (steps.End offset)) = ⊥
StepsInside old new (Some steps.Refused) = ⊥
StepsInside old new None = (ahead_of old ≡ []) × (new ≡ old)

-- nothing is due, and no content is lent
pub record IsCleared (old new : FlatReader) : Type 0 where
  pub same : new.reader ≡ old.reader
  pub front : new.from ≡ 0
  pub none : new.at ≡ 0
  pub due : new.to ≡ 0
  pub lo : new.lo ≡ 0
  pub hi : new.hi ≡ 0
  pub outside : new.inside ≡ false
