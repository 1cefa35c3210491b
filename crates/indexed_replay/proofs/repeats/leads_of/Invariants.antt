use Rattle.indexed_replay.proofs.Apart.{LeadsTo}
use Rattle.indexed_replay.proofs.repeats.leads_of.Given as goal

abbrev pub invariant-indexes : goal.invariant-indexes
invariant-indexes l = LeadsTo l.loaded.chunk_indexes l.loaded.chunk_index_offsets l.i l.leads.items
