use Rattle.std.proofs.Common.{refl, ap, sym, subst, ◌∙◌, Ok, Err}
use Rattle.live_watcher.specs.Text.{unsealed_line}
use Rattle.live_watcher.specs.Watching.{WatcherState}
use Rattle.live_watcher.specs.Putting.{PutsBytes}
use Rattle.live_watcher.proofs.Steps.{ended_before, unsealed_written, unsealed_refused}
use Rattle.live_watcher.proofs.watcher.Watcher.conclude_unsealed.Goals as goal

pub returns-in-Some-clause-since : goal.returns-in-Some-clause-since
returns-in-Some-clause-since g c = λ first w. ended_before g.X.Extent.tells first c.args.self.now _ w refl

pub returns-in-Ok-clause-since : goal.returns-in-Ok-clause-since
returns-in-Ok-clause-since g c = λ first w.
    unsealed_written g.X.Extent.tells first c.args.self.now _ w (sym (ap (λ (s : WatcherState g.row.X.Denot). s.written.end) c.self.view_is) ∙ c.in-None.is)
    (subst (λ (s : WatcherState g.row.X.Denot). PutsBytes s.written.sink (g.K.Sink.state c.put_unsealed.new.sink) unsealed_line (Ok tt)) c.self.view_is c.in-Ok.ensures)
    (ap (λ (s : WatcherState g.row.X.Denot). s.written.failures) c.self.view_is) (ap (λ (s : WatcherState g.row.X.Denot). s.written.fronts) c.self.view_is) refl

pub returns-in-Err-clause-since : goal.returns-in-Err-clause-since
returns-in-Err-clause-since g c = λ first w.
    unsealed_refused g.X.Extent.tells first c.args.self.now _ c.in-Err.why w (sym (ap (λ (s : WatcherState g.row.X.Denot). s.written.end) c.self.view_is) ∙ c.in-None.is)
    (subst (λ (s : WatcherState g.row.X.Denot). PutsBytes s.written.sink (g.K.Sink.state c.put_unsealed.new.sink) unsealed_line (Err c.in-Err.why)) c.self.view_is c.in-Err.ensures)
    (ap (λ (s : WatcherState g.row.X.Denot). s.written.failures) c.self.view_is) (ap (λ (s : WatcherState g.row.X.Denot). s.written.fronts) c.self.view_is) refl
