use Rattle.std.proofs.Common.{List, ℕ, ◌++◌, ap}
use Rattle.live_watcher.specs.Text.{sealed_by}
use Rattle.live_watcher.specs.WatcherSteps.{IsEndTextOf}
use Rattle.live_watcher.specs.Putting.{sink_and_view}
use Rattle.live_watcher.proofs.Replays.{all_replayed}
use Rattle.live_watcher.proofs.Steps.{piece_written, piece_refused}
use Rattle.live_watcher.proofs.pieces.put_end.Goals as goal

pub returns-in-Ok-put_both : goal.returns-in-Ok-put_both
returns-in-Ok-put_both g c =
    let all = c.in-Ok.all in
    let line = c.line_of_end-line.result in
    piece_written (IsEndTextOf g.X.Extent.tells c.args.range c.args.entries.now (sealed_by c.args.end))
    (sink_and_view (g.K.Sink.state c.args.sink.now) (g.V.LiveView.failures c.args.view.now)) (sink_and_view (g.K.Sink.state c.put_both.new.sink) (g.V.LiveView.failures c.replay.new.view)) (line ++ all.text)
    (all.count, all.text, all_replayed g.X.Extent.tells c.args.range c.args.entries.now all.count all.text c.in-Ok.ensures.replays, ap (λ (l : List ℕ). l ++ all.text) c.line_of_end-line.ensures) c.in-Ok.ensures.cause c.in-Ok-put_both.ensures

pub returns-in-Err-put_both : goal.returns-in-Err-put_both
returns-in-Err-put_both g c =
    let all = c.in-Ok.all in
    let line = c.line_of_end-line.result in
    piece_refused g.X.Extent.tells c.args.entries.now (IsEndTextOf g.X.Extent.tells c.args.range c.args.entries.now (sealed_by c.args.end))
    (sink_and_view (g.K.Sink.state c.args.sink.now) (g.V.LiveView.failures c.args.view.now)) (sink_and_view (g.K.Sink.state c.put_both.new.sink) (g.V.LiveView.failures c.replay.new.view)) (line ++ all.text) c.in-Err-put_both.why
    (all.count, all.text, all_replayed g.X.Extent.tells c.args.range c.args.entries.now all.count all.text c.in-Ok.ensures.replays, ap (λ (l : List ℕ). l ++ all.text) c.line_of_end-line.ensures) c.in-Ok.ensures.cause c.in-Err-put_both.ensures
