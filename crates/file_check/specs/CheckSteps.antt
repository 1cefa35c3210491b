-- What the steps of a check come to.
use Rattle.std.specs.Prelude.{◌≡◌, Bool, true, false, ℕ, ◌+◌, ◌≤◌, ◌<◌, ◌^◌, List, length, take, Option, Some, Result, Ok, Err}
use Rattle.mcap_io.specs.Outside.{SourceState, RisesOnce}
use Rattle.mcap_io.specs.Stores.{StoreState}
use Rattle.mcap_io.specs.StoreSources.{front_left}
use Rattle.mcap_model.specs.declared.checked.Counts.{Counts}
use Rattle.mcap_model.specs.declared.checked.Verdict.{Verdict}
use Rattle.mcap_model.specs.declared.checked.Verdict.TheVariants as verdicts
use Rattle.mcap_model.specs.Tops.{Top, Tops}
use Rattle.mcap_model.specs.Rules.{HasDataEnd}
use Rattle.mcap_model.specs.Kept.{reading_limits, Good}
use Rattle.mcap_model.specs.Whole.{EndsWithMagic, V9}
use Rattle.mcap_model.specs.Valid.{Keeps as KeepsAll}
use Rattle.file_check.specs.declared.flaws.FailedRule.{FailedRule}
use Rattle.mcap_model.specs.declared.refusals.ReadingRefused.{ReadingRefused}
use Rattle.mcap_model.specs.declared.refusals.ReadingRefused.TheVariants as refusals
use Rattle.mcap_model.specs.declared.rules.Rule.{Rule}
use Rattle.index_check.specs.declared.section.Section.{Section}
use Rattle.index_check.specs.Section.{SectionOf}
use Rattle.file_check.specs.Reading.{ReadsSection}
use Rattle.summary_check.specs.Judging.{IsJudged}
use Rattle.summary_check.specs.Files.{spelled_file, FailsThere as IsRefusedBehind}
use Rattle.file_check.specs.HaltFlaws.{told_flaw, HasLengthAt}
use Rattle.file_check.specs.Halting.{told_cut}
use Rattle.file_check.specs.Checking.{Checked, CheckCause, margin}
use Rattle.file_check.specs.CutFiles.{NamesCut}

-- ---- the steps

-- a source over the front of a store, which counts its own failures
abbrev pub checked_front : StoreState → ℕ → SourceState
checked_front store end = record { left = front_left store.bytes 0 end; faults = 0 }

-- where the bytes up to the end have the head of a record at that offset, a length stands in it
abbrev pub HeadStands : Option (List ℕ) → ℕ → ℕ → Type 0
HeadStands told end offset =
    (file : List ℕ) → told ≡ Some file → offset + 9 ≤ end → end ≤ length file → HasLengthAt (take end file) offset

-- what is told of a reading that halted there
abbrev pub TellsFlaw : Option (List ℕ) → ℕ → ℕ → Rule → FailedRule → Type 0
TellsFlaw told end offset rule f = (f ≡ told_flaw end offset rule) × HeadStands told end offset

-- the same of a file without the last magic
abbrev pub TellsCut : Option (List ℕ) → ℕ → ℕ → Rule → FailedRule → Type 0
TellsCut told len offset rule f = (f ≡ told_cut len offset rule) × HeadStands told len offset

-- ---- what is asked for

abbrev pub AsksOnce : StoreState → StoreState → Type 0
AsksOnce old new = (file : List ℕ) → old.bytes ≡ Some file → new.asked ≤ old.asked + (length file + margin)

-- of the bytes up to the end each once, and a head
abbrev pub AsksUpTo : StoreState → ℕ → StoreState → Type 0
AsksUpTo old end new = (file : List ℕ) → old.bytes ≡ Some file → end ≤ length file → new.asked ≤ old.asked + (end + 9)

-- ---- the data section

-- the data section of a store was read in front of that end
abbrev pub SectionReads : StoreState → ℕ → Result (Result Section FailedRule) ReadingRefused → Type 0
SectionReads old end result = (now : SourceState) × ReadsSection (checked_front old end) now result

-- the store failed where the reading did
abbrev pub SectionCause : ℕ → ℕ → Result (Result Section FailedRule) ReadingRefused → Type 0
SectionCause before now (Ok it) = now ≡ before
SectionCause before now (Err (refusals.Fault faults)) = RisesOnce before now
SectionCause before now (Err (refusals.Grammar offset rule)) = now ≡ before
SectionCause before now (Err (refusals.Compressed offset name)) = now ≡ before
SectionCause before now (Err (refusals.Limit offset)) = now ≡ before
SectionCause before now (Err refusals.Memory) = now ≡ before

-- of the bytes up to the end each was asked for once at most, and none behind a section that was read
abbrev pub SectionAsks : StoreState → ℕ → ℕ → Result (Result Section FailedRule) ReadingRefused → Type 0
SectionAsks old end asked (Ok (Ok section)) = (file : List ℕ) → old.bytes ≡ Some file → end ≤ length file
    → (section.behind ≤ end) × (asked ≤ old.asked + section.behind)
SectionAsks old end asked (Ok (Err failed)) = asked ≤ old.asked + end
SectionAsks old end asked (Err why) = asked ≤ old.asked + end

-- the file's last magic stands at that end
pub record EndsAtMagic (file : List ℕ) (end : ℕ) : Type 0 where
  pub size : length file ≡ end + 8
  pub magic_last : EndsWithMagic file
  pub fits : length file < 2 ^ 64

-- what is told, by a store of these bytes, of a data section that was refused
abbrev pub TellsSectionRefused : Option (List ℕ) → ℕ → ReadingRefused → Result Verdict ReadingRefused → Type 0
TellsSectionRefused told end why result = (old : StoreState) (now : SourceState) → old.bytes ≡ told
    → ReadsSection (checked_front old end) now (Err why) → (file : List ℕ) → told ≡ Some file → EndsAtMagic file end
    → Checked file result

-- and its cause: where the reading had failed, the count of the store is told
abbrev pub RefusedCause : ℕ → ℕ → ReadingRefused → Result Verdict ReadingRefused → Type 0
RefusedCause before now (refusals.Fault faults) result = (now ≡ before) × (result ≡ Err (refusals.Fault now))
RefusedCause before now (refusals.Grammar offset rule) result = CheckCause before now result
RefusedCause before now (refusals.Compressed offset name) result = CheckCause before now result
RefusedCause before now (refusals.Limit offset) result = CheckCause before now result
RefusedCause before now refusals.Memory result = CheckCause before now result

-- ---- a file without the last magic

pub record IsUnended (file : List ℕ) (len : ℕ) : Type 0 where
  pub size : length file ≡ len
  pub none : EndsWithMagic file → ⊥

-- what is told of it where its data section was refused
abbrev pub TellsCutSection : Option (List ℕ) → ℕ → ReadingRefused → Result Verdict ReadingRefused → Type 0
TellsCutSection told len why result = (old : StoreState) (now : SourceState) → old.bytes ≡ told
    → ReadsSection (checked_front old len) now (Err why) → (file : List ℕ) → told ≡ Some file → IsUnended file len
    → Checked file result

abbrev pub TellsUnended : Option (List ℕ) → ℕ → Result Verdict ReadingRefused → Type 0
TellsUnended told len result = (file : List ℕ) → told ≡ Some file → IsUnended file len → Checked file result

-- ---- behind the data section

-- the data section of a file, whose last magic stands at that end, was read, and this was kept of it
pub record IsSectionRead (file : List ℕ) (end : ℕ) (section : Section) : Type 0 where
  pub tops : List Top
  pub rest : List ℕ
  pub stand : Tops (take end file) tops rest
  pub good : Good reading_limits tops
  pub ended : HasDataEnd tops
  pub v9 : KeepsAll V9 tops
  pub kept : SectionOf tops section

-- what is told, by a store of these bytes, of a file whose data section was kept so
abbrev pub TellsJudged : Option (List ℕ) → ℕ → Section → Result Verdict ReadingRefused → Type 0
TellsJudged told end section result =
    (file : List ℕ) → told ≡ Some file → EndsAtMagic file end → IsSectionRead file end section → Checked file result

-- of a file whose last magic stands at that end
abbrev pub TellsFile : Option (List ℕ) → ℕ → Result Verdict ReadingRefused → Type 0
TellsFile told end result = (file : List ℕ) → told ≡ Some file → EndsAtMagic file end → Checked file result

-- what a file with these bytes behind a data section comes to
abbrev pub told_by : Result Bool ReadingRefused → Counts → Result Verdict ReadingRefused
told_by (Ok true) counts = Ok (verdicts.Indexed counts)
told_by (Ok false) counts = Ok (verdicts.Plain counts)
told_by (Err (refusals.Fault faults)) counts = Err (refusals.Fault faults)
told_by (Err (refusals.Grammar offset rule)) counts = Ok (verdicts.Flawed rule offset)
told_by (Err (refusals.Compressed offset name)) counts = Err (refusals.Compressed offset name)
told_by (Err (refusals.Limit offset)) counts = Err (refusals.Limit offset)
told_by (Err refusals.Memory) counts = Err refusals.Memory

abbrev pub JudgesBehind : List Top → List ℕ → Result Bool ReadingRefused → Type 0
JudgesBehind tops rest (Ok indexed) = IsJudged tops rest indexed
JudgesBehind tops rest (Err why) = IsRefusedBehind (spelled_file tops rest) why

-- ---- a file without the last magic

-- a cut file is told so by a store of these bytes, of that length, whose data section was refused
abbrev pub TellsCutRefusal : Option (List ℕ) → ℕ → ReadingRefused → Result Verdict ReadingRefused → Type 0
TellsCutRefusal told len why result = (old : StoreState) (now : SourceState) → old.bytes ≡ told
    → ReadsSection (checked_front old len) now (Err why) → (file : List ℕ) → told ≡ Some file → length file ≡ len
    → NamesCut file result

-- a cut file is told so by such a store, whatever became of its data section
abbrev pub TellsCutStore : Option (List ℕ) → ℕ → Result Verdict ReadingRefused → Type 0
TellsCutStore told len result = (file : List ℕ) → told ≡ Some file → length file ≡ len → NamesCut file result
