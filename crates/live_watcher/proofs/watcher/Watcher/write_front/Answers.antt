use Rattle.std.proofs.Common.{ap, sym, subst, ◌∙◌, refl, length, ◌++◌, ◌∷◌, [], List, ℕ, Err}
use Rattle.live_watcher.specs.WatcherSteps.{IsFrontLineOf}
use Rattle.live_watcher.specs.Watching.{WatcherState}
use Rattle.live_watcher.specs.Putting.{sink_and_view, PutsAll, PutsPiece}
use Rattle.live_watcher.proofs.Steps.{front_written, front_refused}
use Rattle.live_watcher.proofs.watcher.Watcher.write_front.Goals as goal

pub returns-in-Ok-clause-since : goal.returns-in-Ok-clause-since
returns-in-Ok-clause-since g c = λ first w.
    let held = c.entries.ensures.entries ∙ ap (λ (s : WatcherState g.row.X.Denot). s.reader.entries) c.self.view_is in
    front_written g.X.Extent.tells first c.args.self.now _ c.entries.result.now c.args.blocks w c.requires.goes_on (ap (λ (s : WatcherState g.row.X.Denot). s.reader) c.self.view_is) (ap (λ (s : WatcherState g.row.X.Denot). s.range) c.self.view_is) held c.requires.due
    (c.requires.blocks ∙ ap length (sym held))
    (subst (λ (s : WatcherState g.row.X.Denot). PutsAll (IsFrontLineOf g.X.Extent.tells s.range c.entries.result.now (length c.entries.result.now)) (sink_and_view s.written.sink s.written.failures) (sink_and_view (g.K.Sink.state c.put_front-put.new.sink) (g.V.LiveView.failures c.put_front-put.new.view))) c.self.view_is c.in-Ok.ensures)
    (c.push_reserved.ensures.items ∙ ap (λ (l : List ℕ). l ++ c.args.blocks ∷ []) (c.reserve.ensures.items ∙ ap (λ (s : WatcherState g.row.X.Denot). s.written.fronts) c.self.view_is))
    (ap (λ (s : WatcherState g.row.X.Denot). s.written.end) c.self.view_is ∙ c.requires.goes_on)

pub returns-in-Err-clause-since : goal.returns-in-Err-clause-since
returns-in-Err-clause-since g c = λ first w.
    let held = c.entries.ensures.entries ∙ ap (λ (s : WatcherState g.row.X.Denot). s.reader.entries) c.self.view_is in
    front_refused g.X.Extent.tells first c.args.self.now _ c.entries.result.now c.args.blocks c.in-Err.why w c.requires.goes_on (ap (λ (s : WatcherState g.row.X.Denot). s.reader) c.self.view_is) (ap (λ (s : WatcherState g.row.X.Denot). s.range) c.self.view_is) held c.requires.due
    (c.requires.blocks ∙ ap length (sym held))
    (subst (λ (s : WatcherState g.row.X.Denot). PutsPiece g.X.Extent.tells c.entries.result.now (IsFrontLineOf g.X.Extent.tells s.range c.entries.result.now (length c.entries.result.now)) (sink_and_view s.written.sink s.written.failures) (sink_and_view (g.K.Sink.state c.put_front-put.new.sink) (g.V.LiveView.failures c.put_front-put.new.view)) (Err c.in-Err.why)) c.self.view_is c.in-Err.ensures)
    (c.reserve.ensures.items ∙ ap (λ (s : WatcherState g.row.X.Denot). s.written.fronts) c.self.view_is) refl
