-- What the reading came to is what the program promises of a telling.
use Rattle.command_base.specs.Scenes.{scene}
use Rattle.command_read.proofs.Tellings.{describes}
use Rattle.command_read.proofs.describing.describe_file.Goals as goal

pub returns : goal.returns
returns g c =
    describes c.args.file.now
    (scene (g.W.World.state c.args.world.now) (g.O.Sink.state c.args.out.now) (g.E.Sink.state c.args.err.now))
    (scene (g.W.World.state c.answer_store.new.world) (g.O.Sink.state c.answer_store.new.out) (g.E.Sink.state c.answer_store.new.err))
    c.answer_store.result c.answer_store.ensures
