-- The feed of the index halts as its report says.
use Rattle.std.proofs.Common.{ℕ, List, ◌+◌, ◌∷◌, sym, ap, drop, ◌∙◌, ◌≡◌, arith}
use Rattle.std.proofs.lemmas.List.{drop_more}
use Rattle.feed_lane.specs.declared.report.FeedReport.{FeedReport}
use Rattle.command_record.specs.Record.{reports_in}
use Rattle.command_record.specs.RecordSteps.{first_end}
use Rattle.command_record.proofs.Halts.{halts_so, halts_nowhere}
use Rattle.command_record.proofs.answering.TellingFileWriting.halt.Goals as goal

pub returns-then-index-inputs : goal.returns-then-index-inputs
returns-then-index-inputs c = λ some.
    let inputs = c.args.inputs.now in
    let index = c.args.index in
    let feed = c.as_str.result.now in
    let next : drop index inputs ≡ feed ∷ drop (index + 1) inputs =
    drop_more inputs index c.index-inputs-index.result c.if-index-inputs.true ∙ ap (λ (x : List ℕ). x ∷ drop (index + 1) inputs) (sym (c.as_str.ensures.same ∙ c.index-inputs-index.is)) in
    c.end_complaint.ensures ∙ ap (λ (l : List FeedReport). first_end feed (drop index l)) c.feed_reports.ensures
    ∙ sym (halts_so index inputs (drop (index + 1) inputs) (reports_in c.args.self.now.report.now) feed next)

pub returns : goal.returns
returns c = λ some. sym (halts_nowhere c.args.index c.args.inputs.now (reports_in c.args.self.now.report.now) (omega (arith, c.if-index-inputs.false)))
