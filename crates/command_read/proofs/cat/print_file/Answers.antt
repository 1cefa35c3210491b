-- What the reading came to is what the program promises of a printing.
use Rattle.mcap_model.specs.Plain.{asked_topic}
use Rattle.command_base.specs.Scenes.{scene}
use Rattle.command_read.specs.Cat.{selection}
use Rattle.command_read.proofs.Cats.{printed}
use Rattle.command_read.proofs.cat.print_file.Goals as goal

pub returns : goal.returns
returns g c =
    printed (selection c.args.range (asked_topic c.args.topic)) c.args.file.now
    (scene (g.W.World.state c.args.world.now) (g.O.Sink.state c.args.out.now) (g.E.Sink.state c.args.err.now))
    (scene (g.W.World.state c.answer_source.new.world) (g.O.Sink.state c.answer_source.new.out) (g.E.Sink.state c.answer_source.new.err))
    c.answer_source.result c.answer_source.ensures
