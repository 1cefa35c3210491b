use Rattle.std.proofs.Common.{List, ℕ, subst, Ok}
use Rattle.live_watcher.specs.Putting.{PutsBytes}
use Rattle.live_watcher.proofs.Bytes.{second_refused}
use Rattle.live_watcher.proofs.pieces.put_both.Goals as goal

pub returns-in-Err-put_lines : goal.returns-in-Err-put_lines
returns-in-Err-put_lines g c =
    let old = g.K.Sink.state c.args.sink.now in
    let mid = g.K.Sink.state c.put_bytes.new.sink in
    let new = g.K.Sink.state c.put_lines.new.sink in
    second_refused old mid new c.args.line.now c.args.text.now c.in-Err-put_lines.why (subst (λ (l : List ℕ). PutsBytes old mid l (Ok tt)) c.as_bytes.ensures c.in-Ok.ensures) c.in-Err-put_lines.ensures
