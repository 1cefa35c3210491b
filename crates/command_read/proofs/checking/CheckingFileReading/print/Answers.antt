-- A verdict has a line, so that something was written.
use Rattle.std.proofs.Common.{inl, ◌∙◌}
use Rattle.command_read.proofs.Checks.{takes_verdict}
use Rattle.command_read.proofs.checking.CheckingFileReading.print.Goals as goal

pub returns-in-Ok-clause-takes : goal.returns-in-Ok-clause-takes
returns-in-Ok-clause-takes g c =
    takes_verdict (g.O.Sink.state c.args.out.now) (g.O.Sink.state c.write_all_of.new.sink) c.args.read.now c.as_bytes.result.now (c.as_bytes.ensures ∙ c.line_of_verdict-line.ensures)
    (inl (record { still = c.in-Ok.ensures.0; adds = c.in-Ok.ensures.1 }))
