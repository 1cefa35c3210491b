-- The troubles of the recording are told.
use Rattle.std.proofs.Common.{Bool, false, List, [], ◌∷◌, ◌++◌, subst, sym, ap, ◌∙◌}
use Rattle.std.specs.List.{flat_map}
use Rattle.command_base.specs.Texts.{Trouble, fault, output_limit, output_fault, no_memory}
use Rattle.command_base.specs.ComplaintTroubles.{complained}
use Rattle.command_base.specs.Ran.{when, told_of, Complains}
use Rattle.recorder.specs.Findings.{limit_passed}
use Rattle.command_record.specs.Record.{ends_of, reports_in}
use Rattle.command_base.specs.OutputSteps.{flags_of}
use Rattle.command_record.specs.WatchedAnswer.{flaws_of}
use Rattle.command_record.specs.WatchedSteps.{watch_flags_of}
use Rattle.command_base.proofs.DueComplaints.{told_behind}
use Rattle.command_record.proofs.WatchedDue.{all_due}
use Rattle.live_watcher.specs.declared.report.WatchReport.{WatchReport}
use Rattle.command_record.proofs.watched_answer.answer_watched.Goals as goal

pub returns : goal.returns
returns g c =
    let out = c.args.out.now in
    let feeds = c.args.feeds.now in
    let watches = c.args.watches.now in
    let failed = c.args.failed in
    let report = c.args.outcome.now.report in
    let reports = c.args.outcome.now.watches.items in
    let flags = flags_of feeds failed.parts in
    let watch_flags = watch_flags_of watches failed in
    let ends = ends_of feeds (reports_in report) in
    let told = c.input_complaints-complaints.ensures.troubles false in
    let limited = c.due_when-2.ensures ∙ ap (λ (b : Bool). when b (output_limit out)) c.has_limit.ensures in
    let front = c.push-2.ensures.items ∙ ap (λ l. l ++ c.due_when-2.result ∷ []) c.push.ensures.items in
    let behind = c.push-4.ensures.items ∙ ap (λ l. l ++ c.due_when-4.result ∷ []) c.push-3.ensures.items in
    let watched = c.put_watch_complaints.ensures.troubles ∙ ap (λ (l : List WatchReport). flat_map complained c.push-2.new.self.items ++ told_of watches (flaws_of watches l) watch_flags []) c.as_slice.ensures.value in
    let all = all_due c.input_complaints-complaints.result.items c.push-2.new.self.items c.put_watch_complaints.new.complaints.items c.push-4.new.self.items _ _ _ _ (told_of feeds ends flags []) (told_of watches (flaws_of watches reports) watch_flags []) _ _ _ _ told c.due_when.ensures limited c.due_when-3.ensures c.due_when-4.ensures front watched behind in
    let rest = when failed.parts.printing output_fault ++ when c.lacks_memory_beside-lacked.result no_memory in
    let due = ap (flat_map complained) c.as_slice-2.ensures.value ∙ all
    ∙ ap (λ (l : List Trouble). told_of feeds ends flags [] ++ (when failed.parts.out (fault out) ++ (when (limit_passed report) (output_limit out) ++ l))) (sym (told_behind watches (flaws_of watches reports) watch_flags rest))
    ∙ sym (told_behind feeds ends flags _) in
    record {
      lacked = c.lacks_memory_beside-lacked.result;
      lacks = c.lacks_memory_beside-lacked.ensures;
      told = subst (λ (l : List Trouble). Complains l (g.E.Sink.state c.args.err.now) (g.E.Sink.state c.complain_of.new.err) c.complain_of.result) due c.complain_of.ensures;
    }
