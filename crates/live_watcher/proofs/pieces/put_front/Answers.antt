use Rattle.std.proofs.Common.{List, ℕ, length, subst, Ok, Err}
use Rattle.live_watcher.specs.WatcherSteps.{IsFrontLineOf}
use Rattle.live_watcher.specs.Putting.{sink_and_view, PutsBytes}
use Rattle.live_watcher.proofs.Replays.{front_piece}
use Rattle.live_watcher.proofs.Steps.{piece_written, piece_refused}
use Rattle.live_watcher.proofs.pieces.put_front.Goals as goal

pub returns-in-Ok-put_bytes : goal.returns-in-Ok-put_bytes
returns-in-Ok-put_bytes g c =
    let tells = g.X.Extent.tells in
    let entries = c.args.entries.now in
    let all = c.in-Ok.all in
    let line = c.line_of_front-line.result in
    let old = sink_and_view (g.K.Sink.state c.args.sink.now) (g.V.LiveView.failures c.args.view.now) in
    let new = sink_and_view (g.K.Sink.state c.put_bytes.new.sink) (g.V.LiveView.failures c.replay.new.view) in
    piece_written (IsFrontLineOf tells c.args.range entries (length entries)) old new line
    (front_piece tells c.args.range entries all.count c.checksum.result all.text line c.in-Ok.ensures.replays c.checksum.ensures c.line_of_front-line.ensures) c.in-Ok.ensures.cause
    (subst (λ (l : List ℕ). PutsBytes old.sink new.sink l (Ok tt)) c.as_bytes.ensures c.in-Ok-put_bytes.ensures)

pub returns-in-Err-put_bytes : goal.returns-in-Err-put_bytes
returns-in-Err-put_bytes g c =
    let tells = g.X.Extent.tells in
    let entries = c.args.entries.now in
    let all = c.in-Ok.all in
    let line = c.line_of_front-line.result in
    let old = sink_and_view (g.K.Sink.state c.args.sink.now) (g.V.LiveView.failures c.args.view.now) in
    let new = sink_and_view (g.K.Sink.state c.put_bytes.new.sink) (g.V.LiveView.failures c.replay.new.view) in
    piece_refused tells entries (IsFrontLineOf tells c.args.range entries (length entries)) old new line c.in-Err-put_bytes.why
    (front_piece tells c.args.range entries all.count c.checksum.result all.text line c.in-Ok.ensures.replays c.checksum.ensures c.line_of_front-line.ensures) c.in-Ok.ensures.cause
    (subst (λ (l : List ℕ). PutsBytes old.sink new.sink l (Err c.in-Err-put_bytes.why)) c.as_bytes.ensures c.in-Err-put_bytes.ensures)
