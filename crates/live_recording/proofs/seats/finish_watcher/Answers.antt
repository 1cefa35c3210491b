use Rattle.std.proofs.Common.{◌∙◌, Option, Some, None, sym, ap, subst}
use Rattle.mcap_model.specs.declared.ends.End.{End}
use Rattle.live_directory.specs.declared.front.Front.{Front}
use Rattle.live_directory.specs.Published.{entries_of}
use Rattle.live_watcher.specs.Watching.{written_by, Watches}
use Rattle.live_recording.specs.WatchedSteps.{seal_by}
use Rattle.live_recording.proofs.seats.finish_watcher.Goals as goal

pub returns-in-Some : goal.returns-in-Some
returns-in-Some g c = λ first since.
    let left = c.finish.result in
    let note = c.args.note.now in
    let ends = ap (λ (f : Front). f.end) (sym c.front.ensures.front) ∙ c.in-Some.is in
    subst (λ (o : Option End). Watches g.X.Extent.tells first.range (entries_of note) (seal_by o) first.written (written_by (g.K.Sink.state left.sink) (g.V.LiveView.failures left.view) left.report)) (sym ends)
    (c.finish.ensures.watches first _ since ends)

pub returns-in-None : goal.returns-in-None
returns-in-None g c = λ first since.
    let left = c.finish_unsealed.result in
    let note = c.args.note.now in
    let ends = ap (λ (f : Front). f.end) (sym c.front.ensures.front) ∙ c.in-None.is in
    subst (λ (o : Option End). Watches g.X.Extent.tells first.range (entries_of note) (seal_by o) first.written (written_by (g.K.Sink.state left.sink) (g.V.LiveView.failures left.view) left.report)) (sym ends)
    (c.finish_unsealed.ensures.watches first since)
