-- What was sorted has a line, so that something was written.
use Rattle.std.proofs.Common.{◌∙◌}
use Rattle.command_write.proofs.Sortings.{takes_line}
use Rattle.command_write.proofs.sorting.print_sorting.Goals as goal

pub returns-in-Ok : goal.returns-in-Ok
returns-in-Ok g c = λ input.
    takes_line (g.O.Sink.state c.args.out.now) (g.O.Sink.state c.write_all_of.new.sink) input c.as_bytes.result.now c.write_all_of.result c.args.sorting.now c.in-Made.counts c.in-Made.is (c.as_bytes.ensures ∙ c.line_of_sorted-line.ensures) c.write_all_of.ensures

pub returns-in-Err : goal.returns-in-Err
returns-in-Err g c = λ input.
    takes_line (g.O.Sink.state c.args.out.now) (g.O.Sink.state c.write_all_of.new.sink) input c.as_bytes.result.now c.write_all_of.result c.args.sorting.now c.in-Made.counts c.in-Made.is (c.as_bytes.ensures ∙ c.line_of_sorted-line.ensures) c.write_all_of.ensures
