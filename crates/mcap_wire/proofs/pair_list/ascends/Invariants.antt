use Rattle.std.proofs.Common.{take}
use Rattle.mcap_wire.specs.Maps.{KeysAscend}
use Rattle.mcap_wire.proofs.pair_list.ascends.Given as goal

abbrev pub invariant-loop-i : goal.invariant-loop-i
invariant-loop-i l = KeysAscend (take l.i l.list)
