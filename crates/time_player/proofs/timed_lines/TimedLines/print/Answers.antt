use Rattle.std.proofs.Common.{List, [], subst}
use Rattle.time_player.specs.Putting.{PutsPart, Puts}
use Rattle.time_player.specs.Stretches.{TimedLine, stretches_text}
use Rattle.time_player.proofs.Puttings.{puts_last, part_last}
use Rattle.time_player.proofs.timed_lines.TimedLines.print.Goals as goal

pub returns-in-Ok : goal.returns-in-Ok
returns-in-Ok g c =
    subst (λ (lines : List TimedLine). Puts (g.K.Sink.state c.args.sink.now) (g.K.Sink.state c.write_long.new.sink) [] [] (stretches_text lines c.args.stretches.now) c.write_long.result) c.self.view_is
    (puts_last _ _ _ _ _ _ _ _ c.write_long.result c.clear.ensures.items c.in-Ok.ensures.puts c.write_long.ensures.puts c.write_long.new.piece.ok.0 c.write_long.ensures.short)

pub returns-in-Err : goal.returns-in-Err
returns-in-Err g c =
    subst (λ (lines : List TimedLine). PutsPart (g.K.Sink.state c.args.sink.now) (g.K.Sink.state c.put_stretches.new.sink) [] (stretches_text lines c.args.stretches.now)) c.self.view_is
    (part_last _ _ _ _ c.clear.ensures.items c.in-Err.ensures.puts)
