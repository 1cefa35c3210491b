-- The calls come to what is promised of the command.
use Rattle.std.proofs.Common.{◌∙◌}
use Rattle.command_base.specs.Scenes.{scene}
use Rattle.command_generate.proofs.Told.{lack_told, generates}
use Rattle.command_generate.proofs.generating.generate_file.Goals as goal

pub returns-clause-generates : goal.returns-clause-generates
returns-clause-generates g c =
    let world = g.W.World.state in
    let made = c.write_generated-written in
    let old = scene (world c.args.world.now) (g.O.Sink.state c.args.out.now) (g.E.Sink.state c.args.err.now) in
    let new = scene (world c.read_written-back.new.world) (g.O.Sink.state c.print_back.new.out) (g.E.Sink.state c.answer-status.new.err) in
    generates c.args.options.now c.args.numbers c.args.out_name.now old new (world made.new.world) made.result.report made.result.kept c.read_written-back.result c.of-before.result c.of-now.result _ c.world_rose.result c.has_limit.result c.rose.result c.is_lack.result c.answer-status.result (record {
      before_is = c.of-before.ensures.are;
      now_is = c.of-now.ensures.are;
      written = made.ensures.written;
      reads = c.read_written-back.ensures;
      printed = c.print_back.ensures.takes c.args.out_name.now;
      blame = c.world_rose.ensures;
      print_blame = c.rose.ensures;
      lacks = lack_told c.of-before.result c.of-now.result c.args.numbers.feeds c.args.out_name.now made.result.report _ c.read_written-back.result c.is_lack.result (c.print_back.ensures.lacks c.args.out_name.now) (c.is_lack.ensures c.args.out_name.now);
      halts_are = c.back_complaint.ensures ∙ c.print_back.ensures.halts c.args.out_name.now;
      limited_is = c.has_limit.ensures;
      said = c.answer-status.ensures;
    })
