use Rattle.std.proofs.Common.{◌≡◌, ℕ, ◌++◌, length}
use Rattle.mcap_crc.specs.Register.{register_after}
use Rattle.mcap_crc.specs.Gather.{WindowLeaves}
use Rattle.mcap_crc.proofs.gathered.after_long.Given as goal

abbrev pub invariant-loop-later : goal.invariant-loop-later
invariant-loop-later l =
    (register : ℕ) × (WindowLeaves register l.window) × (register_after register (l.next ++ l.rest) ≡ register_after l.fn.start l.fn.bytes)

abbrev pub decreases-loop-later : goal.decreases-loop-later
decreases-loop-later l = length l.rest
