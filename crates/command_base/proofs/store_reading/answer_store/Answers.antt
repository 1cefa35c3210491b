-- What the calls did is what is promised of a command that reads one store.
use Rattle.mcap_io.specs.declared.outside.ObjectKind.TheVariants as kinds
use Rattle.command_base.proofs.store_reading.answer_store.Goals as goal

pub returns : goal.returns
returns g c =
    let name = c.read_store_name-read.ensures in
    record {
      entries = name.entries;
      reading = c.read_store_name-read.result.reading;
      read = name.reading;
      ran = c.answer_reading.ensures kinds.Store (g.W.World.state c.args.world.now) name.entries c.of-before.ensures.are name.name name.sure;
    }
