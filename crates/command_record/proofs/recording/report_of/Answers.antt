use Rattle.std.proofs.Common.{Option, Some, refl, sym, subst}
use Rattle.recorder.specs.declared.report.Report.{Report}
use Rattle.command_record.specs.declared.recording.RecordingReport.{RecordingReport}
use Rattle.command_record.specs.RecordSteps.{IsReportOf}
use Rattle.command_record.proofs.recording.report_of.Goals as goal

pub returns-in-Some : goal.returns-in-Some
returns-in-Some c =
    let it : RecordingReport = record { recorded = c.in-Some.recorded; sealed = c.args.sealed; watchers = c.args.watchers } in
    subst (λ (r : Option Report). IsReportOf r c.args.sealed c.args.watchers.items (Some it)) (sym c.in-Some.is) (it, refl, refl, refl, refl)
