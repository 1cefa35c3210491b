use Rattle.mcap_model.specs.declared.ends.Stop.TheVariants as stops
use Rattle.mcap_merge.proofs.Filing.{lacks_adds}
use Rattle.mcap_merge.proofs.scribe_pen.ScribePen.lack.Goals as goal

pub returns-clause-adds : goal.returns-clause-adds
returns-clause-adds g c = λ extras records.
    lacks_adds g.L.LiveStore.state c.args.self.now c.stop_for_memory.new.self stops.Memory extras records c.stop_for_memory.ensures.gathers c.stop_for_memory.ensures.stopped.phase
