-- What the end of a new file comes to, and that of the reading of its source.
use Rattle.std.specs.Prelude.{◌≡◌, List, length, filter, IsSome, Result, Ok, Err}
use Rattle.rec_data.specs.declared.owned.Rec.{Rec}
use Rattle.mcap_io.specs.Outside.{SourceState, LiveState, Adds}
use Rattle.mcap_model.specs.declared.options.FileOptions.{FileOptions}
use Rattle.mcap_model.specs.declared.ends.Stop.{Stop}
use Rattle.mcap_model.specs.declared.refusals.ReadingRefused.{ReadingRefused}
use Rattle.mcap_model.specs.Tops.{Top}
use Rattle.mcap_model.specs.Kept.{at_end}
use Rattle.mcap_model.specs.History.{is_message}
use Rattle.mcap_model.specs.Blocks.{pieces_of, blocks_in}
use Rattle.mcap_model.specs.File.{file_of}
use Rattle.mcap_model.specs.Histories.{written_of}
use Rattle.mcap_scan.specs.declared.reader.Reader.{Reader}
use Rattle.mcap_scan.specs.declared.reader.Stage.TheVariants as stages
use Rattle.mcap_scan.specs.RefusedReadings.{HaltsSo, RefusalStands}
use Rattle.chunk_writer.specs.Limits.{FileHolds}
use Rattle.chunk_writer.specs.declared.tape.Written.{Written}
use Rattle.chunk_writer.specs.Stops.{StopsAt, StopCause}
use Rattle.record_keeping.specs.declared.ending.KeptCounts.{KeptCounts}
use Rattle.record_keeping.specs.declared.ending.Over.{Over}
use Rattle.record_keeping.specs.declared.ending.Over.TheVariants as overs
use Rattle.record_keeping.specs.declared.keeping.Keeping.{Keeping}
use Rattle.record_keeping.specs.Keeping.{counted, KeepingStandsFor, AddsAtLeast}

-- what an end of a reading says of the records before it
abbrev pub OverSo : Reader → SourceState → SourceState → List Top → Over → Type 0
OverSo reader before now tops (overs.Ended at) = HaltsSo before now tops (at_end at)
OverSo reader before now tops overs.Refused =
    (why : ReadingRefused) × (reader.stage ≡ stages.Stopped why) × RefusalStands why before now tops

-- the numbers that are told of extras and a history
abbrev pub CountsTold : List Top → List Rec → KeptCounts → Type 0
CountsTold extras history c = (c.messages ≡ counted (length (filter is_message history)))
    × (c.records ≡ counted (length history)) × (c.extras ≡ counted (length extras))

-- what a new file is made of
pub record NewFile : Type 0 where
  pub options : FileOptions
  pub extras : List Top
  pub history : List Rec

abbrev pub new_file : FileOptions → List Top → List Rec → NewFile
new_file options extras history = record { options = options; extras = extras; history = history }

-- Behind what the store held when it was opened stands that file, whole and with the system; or the writer stopped at a piece
-- of it, behind all that was ripe where there are chunks.
abbrev pub EndedFile : LiveState → NewFile → LiveState → LiveState → Result KeptCounts Stop → Type 0
EndedFile last new opened stored (Ok c) = Adds opened.held stored.held (file_of new.options new.extras new.history)
    × CountsTold new.extras new.history c
    × FileHolds new.options.profile (blocks_in (pieces_of new.options.chunk new.options.span new.history)) (length
    (file_of new.options new.extras new.history)) × (stored.faults ≡ last.faults) × (stored.waiting ≡ 0)
EndedFile last new opened stored (Err stop) = (written : Written)
    × StopsAt new.options new.extras new.history opened.held stored.held stop written
    × StopCause last.faults stored.faults stop
    × (IsSome new.options.chunk → AddsAtLeast opened.held stored.held (written_of new.options new.history))

-- The file was ended behind extras and a history for which the keeping stands.
abbrev pub EndsFile : {L : Type 0} → (L → LiveState) → Keeping L → LiveState → Result KeptCounts Stop → Type 0
EndsFile seen k stored result = (options : FileOptions) (extras : List Top) (opened : LiveState) (history : List Rec)
    → KeepingStandsFor seen options extras opened history k
    → EndedFile (seen k.scribe.store) (new_file options extras history) opened stored result
