use Rattle.std.proofs.Common.{◌≡◌, length}
use Rattle.mcap_crc.specs.Register.{register_after}
use Rattle.mcap_crc.proofs.sliced.after.Given as goal

abbrev pub invariant-loop-block : goal.invariant-loop-block
invariant-loop-block l = register_after l.register l.rest ≡ register_after l.fn.start l.fn.bytes

abbrev pub decreases-loop-block : goal.decreases-loop-block
decreases-loop-block l = length l.rest
