use Rattle.std.proofs.Common.{take}
use Rattle.mcap_wire.specs.MapReading.{LacksKey}
use Rattle.mcap_wire.specs.ArrayBytes.{entries_in}
use Rattle.mcap_wire.proofs.counts.is_new.Given as goal

abbrev pub invariant-loop-i : goal.invariant-loop-i
invariant-loop-i l = LacksKey (take l.i (entries_in 2 l.count l.bytes)) l.key
