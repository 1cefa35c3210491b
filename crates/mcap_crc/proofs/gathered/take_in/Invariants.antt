use Rattle.std.proofs.Common.{ℕ, ◌+◌, take, drop}
use Rattle.mcap_crc.specs.Register.{register_after}
use Rattle.mcap_crc.specs.Gather.{WindowLeaves, turned}
use Rattle.mcap_crc.proofs.gathered.take_in.Given as goal

abbrev pub invariant-loop-i : goal.invariant-loop-i
invariant-loop-i l =
    (register : ℕ) → WindowLeaves register (turned l.at l.fn.window) → WindowLeaves (register_after register (take l.i (drop l.at l.block))) (turned (l.at + l.i) l.window)
