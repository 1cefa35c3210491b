-- What a recording without watchers does, in the words of every command that reads some files and writes one.
use Rattle.std.specs.Prelude.{◌≡◌, ℕ, List, [], Bool, Option, Some}
use Rattle.mcap_io.specs.declared.outside.ObjectKind.TheVariants as kinds
use Rattle.mcap_model.specs.declared.options.RecordOptions.{RecordOptions}
use Rattle.mcap_model.specs.declared.replay.Range.{Range}
use Rattle.recorder.specs.declared.report.Report.{Report}
use Rattle.live_watcher.specs.declared.report.WatchReport.{WatchReport}
use Rattle.command_base.specs.declared.statuses.Status.{Status}
use Rattle.command_base.specs.Ran.{Scene, counts_in, AnyRose}
use Rattle.command_base.specs.Outputs.{inputs_and_output, WritesOutput}
use Rattle.command_record.specs.Record.{report_lack, ending_of_recording}
use Rattle.command_record.specs.Watched.{requested}
use Rattle.command_record.specs.WatchedAnswer.{watched_counts_in, AnyCountRose, RecordsSo}

-- It writes its output as such a command does, lacks memory where its report names that, or there is none though no count of these
-- commands rose, asks its store for no view, has no sink, and looks at no other count.
pub record IsUnwatchedRecording (options : RecordOptions) (range : Range) (out : List ℕ) (feeds : List (List ℕ)) (old new : Scene)
    {report : Option Report} {sealed : Bool} {reports : List WatchReport} {status : Status}
    (it : RecordsSo (requested options range out [] feeds) old new report sealed reports status) : Type 0 where
  pub wrote : WritesOutput (inputs_and_output kinds.Source feeds out) old new it.entries (ending_of_recording feeds report)
      status
  pub lacked : it.lacked ≡ report_lack report wrote.some
  pub unviewed : (r : Report) (is : report ≡ Some r) → (it.reported r is).viewed ≡ (it.reported r is).live
  pub no_sinks : (r : Report) (is : report ≡ Some r) → (it.reported r is).kept_sinks ≡ []
  pub rose : AnyCountRose (watched_counts_in [] old) (watched_counts_in [] new) → AnyRose (counts_in old) (counts_in new)

abbrev pub UnwatchedRecordings : Type 0
UnwatchedRecordings = (options : RecordOptions) (range : Range) (out : List ℕ) (feeds : List (List ℕ)) (old new : Scene)
    (report : Option Report) (sealed : Bool) (reports : List WatchReport) (status : Status)
    (it : RecordsSo (requested options range out [] feeds) old new report sealed reports status)
    → IsUnwatchedRecording options range out feeds old new it
