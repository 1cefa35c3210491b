-- What the calls did is what is promised of the command.
use Rattle.std.proofs.Common.{}
use Rattle.command_base.specs.Scenes.{scene}
use Rattle.command_base.proofs.Outputs.{writes, parts_at, caused}
use Rattle.command_base.proofs.file_writing.answer_writing.Goals as goal

pub returns : goal.returns
returns g c = λ kind old entries counted names.
    let inputs = c.args.inputs.now in
    let inputs_failed = c.args.failed_names.inputs.now in
    let out_failed = c.args.failed_names.out in
    let failed = c.failed_parts-failed.result in
    let cause = caused c.args.before.now _ c.of-now.result _ inputs_failed out_failed counted c.of-now.ensures.are (record { inputs = names.names.input_cause; out = names.names.out_cause }) in
    writes kind inputs c.args.out_name.now
    (scene old (g.O.Sink.state c.args.out.now) (g.E.Sink.state c.args.err.now))
    (scene (g.W.World.state c.args.world.now) (g.O.Sink.state c.print.new.out) (g.E.Sink.state c.complain_of_writing.new.err))
    entries (g.K.FileWriting.ending c.args.what.now inputs) inputs_failed out_failed failed c.complain_of_writing.result (record {
      names = names;
      takes = c.print.ensures;
      shows = parts_at c.args.before.now _ c.of-now.result _ inputs inputs_failed out_failed failed counted c.of-now.ensures.are (c.failed_parts-failed.ensures inputs c.requires.few.0 cause);
      told = c.complain_of_writing.ensures kind;
    })
