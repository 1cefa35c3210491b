-- What the reading came to is what the program promises of a printing by the indexes.
use Rattle.mcap_model.specs.Plain.{asked_topic}
use Rattle.command_base.specs.Scenes.{scene}
use Rattle.command_read.specs.Cat.{selection}
use Rattle.command_read.proofs.Followings.{printed}
use Rattle.command_read.proofs.indexed.print_indexed.Goals as goal

pub returns : goal.returns
returns g c =
    printed (selection c.args.range (asked_topic c.args.topic)) c.args.file.now
    (scene (g.W.World.state c.args.world.now) (g.O.Sink.state c.args.out.now) (g.E.Sink.state c.args.err.now))
    (scene (g.W.World.state c.answer_store.new.world) (g.O.Sink.state c.answer_store.new.out) (g.E.Sink.state c.answer_store.new.err))
    c.answer_store.result c.answer_store.ensures
