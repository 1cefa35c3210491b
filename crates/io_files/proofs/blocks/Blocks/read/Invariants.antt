-- The part stays as long, and no more of it is done than it has.
use Rattle.std.proofs.Common.{length, ◌-◌, ◌≡◌, ◌≤◌}
use Rattle.io_files.proofs.blocks.Blocks.read.Given as goal

abbrev pub invariant-pieces : goal.invariant-pieces
invariant-pieces g l = (length l.out ≡ length l.initial.out) × (l.done ≤ length l.out)

abbrev pub decreases-pieces : goal.decreases-pieces
decreases-pieces g l = length l.initial.out - l.done
