use Rattle.std.proofs.Common.{arith}
use Rattle.indexed_replay.proofs.Apart.{leads_none, leads_more, leads_all}
use Rattle.indexed_replay.proofs.repeats.leads_of.Goals as goal

pub indexes-init : goal.indexes-init
indexes-init c = leads_none c.args.loaded.now.chunk_indexes c.args.loaded.now.chunk_index_offsets c.new-leads.result.items c.new-leads.ensures.items

pub indexes-preserved : goal.indexes-preserved
indexes-preserved c = leads_more c.args.loaded.now.chunk_indexes c.args.loaded.now.chunk_index_offsets c.indexes.i c.indexes.leads.items c.push.new.self.items c.lead_of.result c.indexes.invariant c.lead_of.ensures c.in-Ok.ensures.items

pub returns : goal.returns
returns c = leads_all c.args.loaded.now.chunk_indexes c.args.loaded.now.chunk_index_offsets c.indexes.i c.indexes.leads.items c.indexes.invariant (omega (arith, c.indexes-test.false, c.chunk_indexes-i-end.ensures))
