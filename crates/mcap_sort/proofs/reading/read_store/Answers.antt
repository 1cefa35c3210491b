use Rattle.mcap_sort.proofs.Fronts.{gathered_measured, gathered_keeps}
use Rattle.mcap_sort.proofs.reading.read_store.Goals as goal

pub returns-clause-reads : goal.returns-clause-reads
returns-clause-reads g c = gathered_measured (g.T.Store.state c.args.store.now) (g.T.Store.state c.len.new.self) (g.T.Store.state c.read_known.new.store) c.in-Ok.len c.read_known.result c.in-Ok.ensures c.read_known.ensures.reads

pub returns-clause-keeps : goal.returns-clause-keeps
returns-clause-keeps g c = gathered_keeps (g.T.Store.state c.args.store.now) (g.T.Store.state c.len.new.self) (g.T.Store.state c.read_known.new.store) c.in-Ok.len c.read_known.result c.in-Ok.ensures c.read_known.ensures.reads c.read_known.ensures.keeps
