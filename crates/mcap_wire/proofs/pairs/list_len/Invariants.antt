use Rattle.std.proofs.Common.{◌≡◌, length, take}
use Rattle.mcap_wire.specs.Maps.{pair_texts}
use Rattle.mcap_wire.proofs.pairs.list_len.Given as goal

abbrev pub invariant-loop-pair : goal.invariant-loop-pair
invariant-loop-pair l = l.len ≡ length (pair_texts (take l.pair-index l.list))
