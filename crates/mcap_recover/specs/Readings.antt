-- What is kept of a source that is read, and how its reading ended.
use Rattle.std.specs.Prelude.{◌≡◌, ◌⊎◌, ℕ, List, [], Result, Ok, Err}
use Rattle.rec_data.specs.declared.owned.Rec.{Rec}
use Rattle.mcap_io.specs.Outside.{SourceState, LiveState}
use Rattle.mcap_model.specs.declared.options.FileOptions.{FileOptions}
use Rattle.mcap_model.specs.declared.ends.Stop.{Stop}
use Rattle.mcap_model.specs.Tops.{Top}
use Rattle.mcap_model.specs.Kept.{Good, reading_limits, grammar}
use Rattle.mcap_model.specs.declared.refusals.ReadingRefused.{ReadingRefused}
use Rattle.mcap_model.specs.declared.refusals.ReadingRefused.TheVariants as scans
use Rattle.mcap_model.specs.declared.rules.Rule.{Rule}
use Rattle.mcap_model.specs.declared.rules.Rule.TheVariants as rules
use Rattle.mcap_scan.specs.declared.reader.Reader.{Reader}
use Rattle.mcap_scan.specs.declared.reader.Stage.TheVariants as stages
use Rattle.mcap_scan.specs.RefusedReadings.{HaltsSo}
use Rattle.mcap_scan.specs.Sources.{ReadFromFront}
use Rattle.mcap_scan.specs.declared.flat_reader.FlatReader.{FlatReader}
use Rattle.chunk_writer.specs.declared.phase.Phase.TheVariants as phases
use Rattle.chunk_writer.specs.Scribes.{phase_of}
use Rattle.record_keeping.specs.declared.keeping.Keeping.{Keeping}
use Rattle.record_keeping.specs.declared.ending.Over.{Over}
use Rattle.record_keeping.specs.declared.ending.Over.TheVariants as overs
use Rattle.record_keeping.specs.Keeping.{KeepingStandsFor, HasWritten}
use Rattle.record_keeping.specs.NewFiles.{IsUnbegun}
use Rattle.record_keeping.specs.Readings.{ReadSoFar, ReadWhole, ReadToEnd, ReadStopped, BeginsFile}
use Rattle.mcap_recover.specs.declared.answers.Why.{Why}
use Rattle.mcap_recover.specs.declared.answers.Why.TheVariants as whys
use Rattle.mcap_recover.specs.declared.answers.RecoverRefused.{RecoverRefused}
use Rattle.mcap_recover.specs.declared.answers.RecoverRefused.TheVariants as refusals
use Rattle.mcap_recover.specs.Recovering.{lacks, BreaksOff, HasHalted}

-- ---- how a reading ended

-- whether the bytes are cut short, where a rule is broken
abbrev pub GrammarTold : Rule → Why → Type 0
GrammarTold rule why = ((rule ≡ rules.V4) × (why ≡ whys.Short)) ⊎ ((rule ≡ rules.V4 → ⊥) × (why ≡ whys.Grammar))

abbrev pub RefusalTold : ReadingRefused → Result (ℕ × Why) RecoverRefused → Type 0
RefusalTold (scans.Fault faults) result = result ≡ Err (refusals.Refused (scans.Fault faults))
RefusalTold (scans.Grammar offset rule) result = (why : Why) × GrammarTold rule why × (result ≡ Ok (offset, why))
RefusalTold (scans.Compressed offset name) result = result ≡ Ok (offset, whys.Compressed)
RefusalTold (scans.Limit offset) result = result ≡ Ok (offset, whys.Limit)
RefusalTold scans.Memory result = result ≡ Err lacks

abbrev pub HaltTold : Reader → Over → Result (ℕ × Why) RecoverRefused → Type 0
HaltTold reader (overs.Ended at) result = result ≡ Ok (at, whys.Complete)
HaltTold reader overs.Refused result =
    (why : ReadingRefused) → reader.stage ≡ stages.Stopped why → RefusalTold why result

-- ---- what is kept of it

-- the keeping stands for extras and a history
abbrev pub stands_kept : {L : Type 0} → (L → LiveState) → FileOptions → LiveState → Keeping L → List Top → List Rec
    → Type 0
stands_kept seen options opened k extras history = KeepingStandsFor seen options extras opened history k

-- What repairing makes of the records that were given was kept. The source and the store were in these states before.
abbrev pub Repairing : {L : Type 0} → (L → LiveState) → FileOptions → SourceState → SourceState → LiveState
    → FlatReader → Keeping L → Type 0
Repairing seen options before now opened flat k =
    ReadSoFar (stands_kept seen options opened k) options.profile before now flat

-- what it makes of all records that were read was kept
abbrev pub KeptOf : {L : Type 0} → (L → LiveState) → FileOptions → SourceState → LiveState → Keeping L → Type 0
KeptOf seen options before opened k = ReadWhole (stands_kept seen options opened k) options.profile before

-- how the new file is written, and the states of the source and of the store before
pub record Origin : Type 0 where
  pub options : FileOptions
  pub before : SourceState
  pub opened : LiveState

abbrev pub origin : FileOptions → SourceState → LiveState → Origin
origin options before opened = record { options = options; before = before; opened = opened }

-- the reading came to its end
abbrev pub ReadingCameToEnd : {L : Type 0} → (L → LiveState) → Origin → SourceState → Reader → Keeping L → Over
    → Type 0
ReadingCameToEnd seen from now reader k over =
    ReadToEnd (stands_kept seen from.options from.opened k) from.options.profile from.before now reader over

-- the writer stopped at what one of the records shows or holds
abbrev pub IsStopped : {L : Type 0} → (L → LiveState) → FileOptions → SourceState → SourceState → LiveState
    → Keeping L → Stop → Type 0
IsStopped seen options before now opened k stop =
    ReadStopped (stands_kept seen options opened k) (HasWritten seen options opened k) options.profile before now
    × (phase_of k.scribe ≡ phases.Stopped stop)

abbrev pub ReadsOn : {L : Type 0} → (L → LiveState) → Origin → SourceState → FlatReader → Keeping L → Result Over Stop
    → Type 0
ReadsOn seen from now flat k (Ok over) = ReadingCameToEnd seen from now flat.reader k over
ReadsOn seen from now flat k (Err stop) = IsStopped seen from.options from.before now from.opened k stop

-- ---- the first record

-- the reading came to a halt there, and not for want of the magic
abbrev pub HaltsStart : ReadingRefused → Type 0
HaltsStart (scans.Fault faults) = ⊥
HaltsStart (scans.Grammar offset rule) = offset ≡ 0 → ⊥
HaltsStart (scans.Compressed offset name) = Unit {0}
HaltsStart (scans.Limit offset) = Unit {0}
HaltsStart scans.Memory = ⊥

-- it broke off
abbrev pub IsBreak : ReadingRefused → Type 0
IsBreak (scans.Fault faults) = Unit {0}
IsBreak (scans.Grammar offset rule) = ⊥
IsBreak (scans.Compressed offset name) = ⊥
IsBreak (scans.Limit offset) = ⊥
IsBreak scans.Memory = Unit {0}

-- why the first record was refused, and what begins then
abbrev pub StartsSo : ReadingRefused → Result (List ℕ) RecoverRefused → Type 0
StartsSo why (Ok profile) = (profile ≡ []) × HaltsStart why
StartsSo why (Err refusals.NoMagic) = (rule : Rule) × (why ≡ scans.Grammar 0 rule)
StartsSo why (Err (refusals.Refused told)) = (why ≡ told) × IsBreak told
StartsSo why (Err (refusals.Stopped stop)) = ⊥

-- nothing is written, since the reading broke off
pub record UnbegunSo (before now : SourceState) (why : ReadingRefused) : Type 0 where
  pub tops : List Top
  pub good : Good reading_limits tops
  pub few : IsUnbegun why (ReadFromFront before now) tops
  pub broken : BreaksOff why before now tops

-- That; or the source doesn't begin with the magic.
abbrev pub BeginsReading : SourceState → SourceState → FlatReader → Result (List ℕ) RecoverRefused → Type 0
BeginsReading before now flat (Ok profile) = BeginsFile (HasHalted before now) before now flat profile
BeginsReading before now flat (Err refusals.NoMagic) = (rule : Rule) × HaltsSo before now [] (grammar 0 rule)
BeginsReading before now flat (Err (refusals.Refused why)) = UnbegunSo before now why
BeginsReading before now flat (Err (refusals.Stopped stop)) = ⊥
