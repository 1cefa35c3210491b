use Rattle.std.proofs.Common.{◌≡◌, ◌++◌, length}
use Rattle.mcap_crc.specs.Register.{register_after}
use Rattle.mcap_crc.specs.Fold.{bytes_of}
use Rattle.mcap_crc.proofs.folded.after.Given as goal

abbrev pub invariant-loop-next : goal.invariant-loop-next
invariant-loop-next l = register_after 0 (bytes_of l.five ++ l.rest) ≡ register_after l.fn.start l.fn.bytes

abbrev pub decreases-loop-next : goal.decreases-loop-next
decreases-loop-next l = length l.rest
