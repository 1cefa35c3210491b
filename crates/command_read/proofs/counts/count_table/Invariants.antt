use Rattle.std.proofs.Common.{◌≡◌, ℕ, ◌<◌, ◌≤◌, Some, drop, length}
use Rattle.std.specs.Prelude.{slice_get}
use Rattle.command_read.specs.Counts.{count_under}
use Rattle.command_read.proofs.counts.count_table.Given as goal

abbrev pub invariant-counts : goal.invariant-counts
invariant-counts l = (l.i ≤ length l.counts) × (length l.table.items ≡ 65536) × ((id : ℕ) → id < 65536 → slice_get l.table.items id ≡ Some (count_under (drop l.i l.counts) id))

abbrev pub decreases-counts : goal.decreases-counts
decreases-counts l = l.i
