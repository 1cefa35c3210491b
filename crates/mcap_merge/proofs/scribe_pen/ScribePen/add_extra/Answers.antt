use Rattle.mcap_model.specs.Made.{top}
use Rattle.mcap_merge.proofs.Filing.{gathers_adds}
use Rattle.mcap_merge.proofs.scribe_pen.ScribePen.add_extra.Goals as goal

pub returns-clause-adds : goal.returns-clause-adds
returns-clause-adds g c = gathers_adds g.L.LiveStore.state c.args.self.now c.add_extra.new.self (top c.args.op c.args.content.now) c.add_extra.ensures.gathers
