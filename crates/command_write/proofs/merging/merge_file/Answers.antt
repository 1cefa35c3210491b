-- What the calls did is what is promised of the command.
use Rattle.std.proofs.Common.{Bool, List, subst, sym}
use Rattle.mcap_io.specs.declared.outside.ObjectKind.TheVariants as kinds
use Rattle.command_base.specs.Scenes.{scene}
use Rattle.command_base.specs.Outputs.{inputs_and_output}
use Rattle.command_base.specs.OutputSteps.{NamesEnd}
use Rattle.command_write.specs.Merge.{ending_of_merging}
use Rattle.command_write.proofs.Merges.{merged}
use Rattle.command_write.proofs.merging.merge_file.Goals as goal

pub returns : goal.returns
returns g c =
    let inputs = c.args.inputs.now in
    let out = c.args.out_name.now in
    let outcome = c.merge_names-outcome.result in
    let names = c.merge_names-outcome.ensures in
    let old = g.W.World.state c.args.world.now in
    let new = g.W.World.state c.merge_names-outcome.new.world in
    let ends = subst (λ (l : List Bool). NamesEnd (inputs_and_output kinds.Store inputs out) old new names.entries l outcome.out_failed (λ some. ending_of_merging inputs outcome.merging)) (sym c.as_slice.ensures.value) names.ends in
    merged c.args.chunk inputs out
    (scene old (g.O.Sink.state c.args.out.now) (g.E.Sink.state c.args.err.now))
    (scene new (g.O.Sink.state c.answer_writing.new.out) (g.E.Sink.state c.answer_writing.new.err))
    outcome c.answer_writing.result names (c.answer_writing.ensures kinds.Store old names.entries c.of-before.ensures.are ends)
