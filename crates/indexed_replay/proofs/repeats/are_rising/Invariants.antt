use Rattle.indexed_replay.proofs.Apart.{RiseTo}
use Rattle.indexed_replay.proofs.repeats.are_rising.Given as goal

abbrev pub invariant-indexes : goal.invariant-indexes
invariant-indexes l = RiseTo l.loaded.chunk_indexes l.loaded.chunk_index_offsets l.i l.last
