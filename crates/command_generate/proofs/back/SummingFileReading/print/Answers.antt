-- What was read has a line, so that something was written.
use Rattle.std.proofs.Common.{◌∙◌}
use Rattle.command_generate.proofs.Printed.{takes_line}
use Rattle.command_generate.proofs.back.SummingFileReading.print.Goals as goal

pub returns-in-Ok-clause-takes : goal.returns-in-Ok-clause-takes
returns-in-Ok-clause-takes g c =
    takes_line (g.O.Sink.state c.args.out.now) (g.O.Sink.state c.write_all_of.new.sink) c.args.self.now.feeds c.as_bytes.result.now c.write_all_of.result c.args.read.now (c.as_bytes.ensures ∙ c.line_of_sums-line.ensures) c.write_all_of.ensures
