-- What the calls did is what the program promises of a check.
use Rattle.std.proofs.Common.{ap, ◌∙◌}
use Rattle.mcap_io.specs.declared.outside.ObjectKind.TheVariants as kinds
use Rattle.command_base.specs.Scenes.{scene}
use Rattle.command_read.specs.Check.{final_status}
use Rattle.command_read.proofs.Checks.{checked}
use Rattle.command_read.proofs.checking.check_file.Goals as goal

pub returns : goal.returns
returns g c =
    let name = c.read_store_name-read.ensures in
    let complained = c.answer_reading-complained.result in
    checked c.args.file.now
    (scene (g.W.World.state c.args.world.now) (g.O.Sink.state c.args.out.now) (g.E.Sink.state c.args.err.now))
    (scene (g.W.World.state c.read_store_name-read.new.world) (g.O.Sink.state c.answer_reading-complained.new.out) (g.E.Sink.state c.answer_reading-complained.new.err))
    complained c.status_of.result (record {
      entries = name.entries;
      reading = c.read_store_name-read.result.reading;
      read = name.reading;
      ran = c.answer_reading-complained.ensures kinds.Store (g.W.World.state c.args.world.now) name.entries c.of-before.ensures.are name.name name.sure;
    }) (c.status_of.ensures ∙ ap (final_status complained) c.own_status-own.ensures)
