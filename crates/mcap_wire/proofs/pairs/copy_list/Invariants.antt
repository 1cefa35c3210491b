use Rattle.std.proofs.Common.{◌≡◌, take}
use Rattle.mcap_wire.proofs.pairs.copy_list.Given as goal

abbrev pub invariant-loop-pair : goal.invariant-loop-pair
invariant-loop-pair l = l.pairs.items ≡ take l.pair-index l.list
