-- For which records a scanner stands: a reader with its source.
use Rattle.std.specs.Prelude.{◌≡◌, ◌⊎◌, ℕ, List, Option, Result, Ok, Err}
use Rattle.mcap_model.specs.Tops.{Top}
use Rattle.mcap_model.specs.declared.refusals.ReadingRefused.{ReadingRefused}
use Rattle.mcap_model.specs.declared.refusals.ReadingRefused.TheVariants as refusals
use Rattle.mcap_scan.specs.declared.answers.Step.{Step}
use Rattle.mcap_scan.specs.declared.answers.Step.TheVariants as steps
use Rattle.mcap_scan.specs.declared.answers.Top.{Top as Taken}
use Rattle.mcap_scan.specs.declared.answers.Top.TheVariants as tops_given
use Rattle.mcap_scan.specs.declared.reader.Stage.TheVariants as stages
use Rattle.mcap_scan.specs.declared.scanner.Scanner.{Scanner}
use Rattle.mcap_io.specs.Outside.{SourceState}
use Rattle.mcap_scan.specs.Scanning.{Stands, Advanced, IsOver, content_of, KeptBy, next_offset}
use denote.Ref.{Bor}

-- The scanner stands for these records of a source, which was in this state when the scanner was new. What is seen of a
-- source is handed in.
abbrev pub Scans : {S : Type 0} → (S → SourceState) → Scanner S → SourceState → List Top → Type 0
Scans seen scanner before tops = Stands scanner.reader before (seen scanner.source) tops

-- what a step into the scanner's own room gives
abbrev pub Steps : {S : Type 0} → (S → SourceState) → Scanner S → SourceState → List Top → Step → Type 0
Steps seen scanner before tops step = Advanced scanner.reader before (seen scanner.source) tops step

-- the content of the record that was given last
abbrev pub scanned_content : {S : Type 0} → Scanner S → List ℕ
scanned_content scanner = content_of scanner.reader

-- the Data End was given, or the reading was refused
abbrev pub IsScanOver : {S : Type 0} → Scanner S → Type 0
IsScanOver scanner = IsOver scanner.reader.stage

-- the source of a scanner
abbrev pub source_of : {S : Type 0} → Scanner S → S
source_of scanner = scanner.source

-- the refusal that it keeps
abbrev pub KeptIn : {S : Type 0} → Scanner S → Option (Bor ReadingRefused) → Type 0
KeptIn scanner refusal = KeptBy scanner.reader refusal

-- where its next record stands
abbrev pub scanned_offset : {S : Type 0} → Scanner S → ℕ
scanned_offset scanner = next_offset scanner.reader

-- the step that an answer with a copy of the content tells of
abbrev pub step_of : Result Taken ReadingRefused → Step
step_of (Ok (tops_given.Record op offset content)) = steps.Record op offset
step_of (Ok (tops_given.End offset)) = steps.End offset
step_of (Err why) = steps.Refused

-- A kept refusal is told as it is. The name of a compression is copied for that, and memory may lack for it.
abbrev pub TellsAgain : ReadingRefused → ReadingRefused → Type 0
TellsAgain (refusals.Fault faults) why = why ≡ refusals.Fault faults
TellsAgain (refusals.Grammar offset rule) why = why ≡ refusals.Grammar offset rule
TellsAgain (refusals.Compressed offset name) why = (why ≡ refusals.Compressed offset name) ⊎ (why ≡ refusals.Memory)
TellsAgain (refusals.Limit offset) why = why ≡ refusals.Limit offset
TellsAgain refusals.Memory why = why ≡ refusals.Memory

-- the content is a copy of the one that the scanner holds; a refusal is the one that it keeps
abbrev pub Copies : {S : Type 0} → Scanner S → Result Taken ReadingRefused → Type 0
Copies scanner (Ok (tops_given.Record op offset content)) = content ≡ scanned_content scanner
Copies scanner (Ok (tops_given.End offset)) = Unit {0}
Copies scanner (Err why) = (kept : ReadingRefused) × (scanner.reader.stage ≡ stages.Stopped kept) × TellsAgain kept why
