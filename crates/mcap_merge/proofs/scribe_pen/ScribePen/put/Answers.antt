use Rattle.mcap_merge.proofs.Filing.{grows_adds, inner_framed}
use Rattle.mcap_merge.proofs.scribe_pen.ScribePen.put.Goals as goal

pub put_bytes-requires-clause-extra : goal.put_bytes-requires-clause-extra
put_bytes-requires-clause-extra g c = λ r is none. let (one, inner) = c.requires.framed in absurd (inner_framed c.args.framed.now one r inner is none)

pub returns-in-Ok-clause-adds : goal.returns-in-Ok-clause-adds
returns-in-Ok-clause-adds g c = λ r is. grows_adds g.L.LiveStore.state c.args.self.now c.put_bytes.new.self r (c.put_bytes.ensures.stands r is.framed)

pub returns-in-Err-clause-adds : goal.returns-in-Err-clause-adds
returns-in-Err-clause-adds g c = λ r is. grows_adds g.L.LiveStore.state c.args.self.now c.put_bytes.new.self r (c.put_bytes.ensures.stands r is.framed)
