use Rattle.std.proofs.Common.{◌-◌, ◌≤◌, length, take}
use Rattle.mcap_wire.specs.ArrayBytes.{entries_in, HoldsCounts}
use Rattle.mcap_wire.proofs.MarkLemmas.{MarksKeys}
use Rattle.mcap_wire.proofs.counts.count_marked.Given as goal

abbrev pub invariant-loop-at : goal.invariant-loop-at
invariant-loop-at l = (l.at ≤ length l.bytes) × (l.count ≤ l.at) × HoldsCounts (take l.at l.bytes) l.count
    × MarksKeys l.marks (entries_in 2 l.count (take l.at l.bytes))

abbrev pub decreases-loop-at : goal.decreases-loop-at
decreases-loop-at l = length l.bytes - l.at
