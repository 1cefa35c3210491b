use Rattle.std.specs.List.{AllAdjacentBelow}
use Rattle.live_replay.specs.IndexTable.{NotAfter}
use Rattle.live_replay.proofs.index_table.is_in_order.Given as goal

abbrev pub invariant-entries : goal.invariant-entries
invariant-entries l = AllAdjacentBelow NotAfter l.entries l.i
