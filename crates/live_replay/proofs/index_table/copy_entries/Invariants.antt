use Rattle.std.proofs.Common.{◌≡◌, map, take}
use Rattle.live_replay.specs.IndexTable.{time_at}
use Rattle.live_replay.proofs.index_table.copy_entries.Given as goal

abbrev pub invariant-entries : goal.invariant-entries
invariant-entries l = l.copied.items ≡ map time_at (take l.i l.entries)
