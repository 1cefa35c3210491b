use Rattle.std.proofs.Common.{◌-◌, ◌≤◌, length, take}
use Rattle.mcap_wire.specs.PairBytes.{SpellsPairs}
use Rattle.mcap_wire.proofs.pair_bytes.count_unordered.Given as goal

abbrev pub invariant-loop-at : goal.invariant-loop-at
invariant-loop-at l = (l.at ≤ length l.bytes) × (l.count ≤ l.at) × SpellsPairs (take l.at l.bytes) l.count

abbrev pub decreases-loop-at : goal.decreases-loop-at
decreases-loop-at l = length l.bytes - l.at
