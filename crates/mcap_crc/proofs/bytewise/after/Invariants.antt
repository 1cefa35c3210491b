use Rattle.std.proofs.Common.{◌≡◌, take}
use Rattle.mcap_crc.specs.Register.{register_after}
use Rattle.mcap_crc.proofs.bytewise.after.Given as goal

abbrev pub invariant-loop-byte : goal.invariant-loop-byte
invariant-loop-byte l = l.register ≡ register_after l.fn.start (take l.byte-index l.bytes)
