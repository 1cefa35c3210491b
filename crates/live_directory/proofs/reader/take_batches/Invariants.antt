use Rattle.std.proofs.Common.{◌≡◌, ◌≤◌, ◌-◌, length, take}
use Rattle.live_directory.specs.Published.{entries_of}
use Rattle.live_directory.proofs.reader.take_batches.Given as goal

abbrev pub invariant-batches : goal.invariant-batches
invariant-batches g l = (l.next ≤ length l.batches) × (l.entries.items ≡ entries_of (take l.next l.batches)) × (l.held ≤ length l.entries.items) × (take l.held l.entries.items ≡ l.initial.entries.items)

abbrev pub decreases-batches : goal.decreases-batches
decreases-batches g l = length l.batches - l.next
