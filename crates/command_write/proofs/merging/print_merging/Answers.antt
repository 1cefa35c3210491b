-- What was merged has a line, so that something was written.
use Rattle.std.proofs.Common.{◌∙◌}
use Rattle.command_write.proofs.Merges.{takes_merged}
use Rattle.command_write.proofs.merging.print_merging.Goals as goal

pub returns-in-Ok : goal.returns-in-Ok
returns-in-Ok g c =
    takes_merged (g.O.Sink.state c.args.out.now) (g.O.Sink.state c.write_all_of.new.sink) c.args.inputs.now c.as_bytes.result.now c.write_all_of.result c.args.merging.now c.in-Made.merged c.in-Made.is (c.as_bytes.ensures ∙ c.line_of_merged-line.ensures) c.write_all_of.ensures

pub returns-in-Err : goal.returns-in-Err
returns-in-Err g c =
    takes_merged (g.O.Sink.state c.args.out.now) (g.O.Sink.state c.write_all_of.new.sink) c.args.inputs.now c.as_bytes.result.now c.write_all_of.result c.args.merging.now c.in-Made.merged c.in-Made.is (c.as_bytes.ensures ∙ c.line_of_merged-line.ensures) c.write_all_of.ensures
