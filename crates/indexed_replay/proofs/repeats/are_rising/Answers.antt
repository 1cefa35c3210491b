use Rattle.std.proofs.Common.{inl, inr, arith}
use Rattle.indexed_replay.proofs.Apart.{rise_more, rise_all}
use Rattle.indexed_replay.proofs.repeats.are_rising.Goals as goal
use Rattle.indexed_replay.proofs.repeats.are_rising.Goals.{else-i-gt0-via-then-i-gt0+else-lead-last, else-i-gt0-via-else-i-gt0}

pub indexes-preserved : goal.indexes-preserved
indexes-preserved c = rise_more c.args.loaded.now.chunk_indexes c.args.loaded.now.chunk_index_offsets c.indexes.i c.indexes.last c.lead_of-lead.result c.indexes.invariant c.lead_of-lead.ensures
    (elim c.else-i-gt0.branch [
      | else-i-gt0-via-then-i-gt0+else-lead-last w ↦ inr (omega (arith, w.if-lead-last.false))
      | else-i-gt0-via-else-i-gt0 w ↦ inl (omega (arith, w.if-i-gt0.false))
    ])

pub returns : goal.returns
returns c = λ e. rise_all c.args.loaded.now.chunk_indexes c.args.loaded.now.chunk_index_offsets c.indexes.i c.indexes.last c.indexes.invariant (omega (arith, c.indexes-test.false, c.chunk_indexes-i-end.ensures))
