use Rattle.std.proofs.Common.{ap, subst, ◌∙◌, refl, Err}
use Rattle.live_watcher.specs.Text.{sealed_by}
use Rattle.live_watcher.specs.WatcherSteps.{IsEndTextOf}
use Rattle.live_watcher.specs.Watching.{WatcherState}
use Rattle.live_watcher.specs.Putting.{sink_and_view, PutsAll, PutsPiece}
use Rattle.live_watcher.proofs.Steps.{end_written, end_refused}
use Rattle.live_watcher.proofs.watcher.Watcher.write_end.Goals as goal

pub returns-in-Ok-clause-since : goal.returns-in-Ok-clause-since
returns-in-Ok-clause-since g c = λ first w.
    end_written g.X.Extent.tells first c.args.self.now _ c.entries.result.now c.args.end w c.requires.goes_on (ap (λ (s : WatcherState g.row.X.Denot). s.reader) c.self.view_is) (ap (λ (s : WatcherState g.row.X.Denot). s.range) c.self.view_is)
    (c.entries.ensures.entries ∙ ap (λ (s : WatcherState g.row.X.Denot). s.reader.entries) c.self.view_is) c.requires.holds
    (subst (λ (s : WatcherState g.row.X.Denot). PutsAll (IsEndTextOf g.X.Extent.tells s.range c.entries.result.now (sealed_by c.args.end)) (sink_and_view s.written.sink s.written.failures) (sink_and_view (g.K.Sink.state c.put_end-put.new.sink) (g.V.LiveView.failures c.put_end-put.new.view))) c.self.view_is c.in-Ok.ensures)
    (ap (λ (s : WatcherState g.row.X.Denot). s.written.fronts) c.self.view_is) refl

pub returns-in-Err-clause-since : goal.returns-in-Err-clause-since
returns-in-Err-clause-since g c = λ first w.
    end_refused g.X.Extent.tells first c.args.self.now _ c.entries.result.now c.args.end c.in-Err.why w c.requires.goes_on (ap (λ (s : WatcherState g.row.X.Denot). s.reader) c.self.view_is) (ap (λ (s : WatcherState g.row.X.Denot). s.range) c.self.view_is)
    (c.entries.ensures.entries ∙ ap (λ (s : WatcherState g.row.X.Denot). s.reader.entries) c.self.view_is) c.requires.holds
    (subst (λ (s : WatcherState g.row.X.Denot). PutsPiece g.X.Extent.tells c.entries.result.now (IsEndTextOf g.X.Extent.tells s.range c.entries.result.now (sealed_by c.args.end)) (sink_and_view s.written.sink s.written.failures) (sink_and_view (g.K.Sink.state c.put_end-put.new.sink) (g.V.LiveView.failures c.put_end-put.new.view)) (Err c.in-Err.why)) c.self.view_is c.in-Err.ensures)
    (ap (λ (s : WatcherState g.row.X.Denot). s.written.fronts) c.self.view_is) refl
