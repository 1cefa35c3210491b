-- What the steps of a recovery come to.
use Rattle.std.specs.Prelude.{◌≡◌, ℕ, List, length, filter, IsSome, Result, Ok, Err}
use Rattle.rec_data.specs.declared.owned.Rec.{Rec}
use Rattle.mcap_io.specs.Outside.{LiveState, Adds}
use Rattle.mcap_model.specs.declared.options.FileOptions.{FileOptions}
use Rattle.mcap_model.specs.Tops.{Top}
use Rattle.mcap_model.specs.History.{is_message}
use Rattle.mcap_model.specs.Blocks.{pieces_of, blocks_in}
use Rattle.mcap_model.specs.File.{file_of}
use Rattle.mcap_model.specs.Histories.{written_of}
use Rattle.chunk_writer.specs.Limits.{FileHolds}
use Rattle.chunk_writer.specs.declared.tape.Written.{Written}
use Rattle.chunk_writer.specs.Stops.{StopsAt, StopCause}
use Rattle.record_keeping.specs.declared.keeping.Keeping.{Keeping}
use Rattle.record_keeping.specs.Keeping.{counted, KeepingStandsFor, AddsAtLeast}
use Rattle.record_keeping.specs.Ending.{NewFile, new_file}
use Rattle.mcap_recover.specs.declared.answers.Why.{Why}
use Rattle.mcap_recover.specs.declared.answers.Recovered.{Recovered}
use Rattle.mcap_recover.specs.declared.answers.RecoverRefused.{RecoverRefused}
use Rattle.mcap_recover.specs.declared.answers.RecoverRefused.TheVariants as refusals

-- the numbers that are answered
abbrev pub AnswersSo : List Top → List Rec → ℕ → Why → Recovered → Type 0
AnswersSo extras history at why r = (r.at ≡ at) × (r.why ≡ why)
    × (r.messages ≡ counted (length (filter is_message history))) × (r.records ≡ counted (length history))
    × (r.extras ≡ counted (length extras))

abbrev pub Finished : LiveState → NewFile → LiveState → LiveState → ℕ → Why → Result Recovered RecoverRefused → Type 0
Finished last new opened stored at why (Ok r) = Adds opened.held stored.held (file_of new.options new.extras
    new.history) × AnswersSo new.extras new.history at why r
    × FileHolds new.options.profile (blocks_in (pieces_of new.options.chunk new.options.span new.history)) (length
    (file_of new.options new.extras new.history)) × (stored.faults ≡ last.faults) × (stored.waiting ≡ 0)
Finished last new opened stored at why (Err refusals.NoMagic) = ⊥
Finished last new opened stored at why (Err (refusals.Refused told)) = ⊥
Finished last new opened stored at why (Err (refusals.Stopped stop)) = (written : Written)
    × StopsAt new.options new.extras new.history opened.held stored.held stop written
    × StopCause last.faults stored.faults stop
    × (IsSome new.options.chunk → AddsAtLeast opened.held stored.held (written_of new.options new.history))

-- The new file was ended behind extras and a history for which the writer stands, and this is answered; or the writer stopped.
abbrev pub FinishesFile : {L : Type 0} → (L → LiveState) → Keeping L → LiveState → ℕ → Why
    → Result Recovered RecoverRefused → Type 0
FinishesFile seen k stored at why result = (options : FileOptions) (extras : List Top) (opened : LiveState)
    (history : List Rec) → KeepingStandsFor seen options extras opened history k
    → Finished (seen k.scribe.store) (new_file options extras history) opened stored at why result
