use Rattle.std.proofs.Common.{◌-◌, ◌<◌, ◌≤◌, length, take}
use Rattle.std.specs.Prelude.{All}
use Rattle.mcap_wire.specs.ArrayBytes.{entries_in, HoldsCounts}
use Rattle.mcap_wire.proofs.counts.count_counts.Given as goal

abbrev pub invariant-loop-at : goal.invariant-loop-at
invariant-loop-at l = (l.at ≤ length l.bytes) × (l.count ≤ l.at) × HoldsCounts (take l.at l.bytes) l.count
    × (l.bound ≤ 65536) × All (λ p. p.0 < l.bound) (entries_in 2 l.count (take l.at l.bytes))

abbrev pub decreases-loop-at : goal.decreases-loop-at
decreases-loop-at l = length l.bytes - l.at
