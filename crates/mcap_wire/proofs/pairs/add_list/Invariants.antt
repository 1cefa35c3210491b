use Rattle.std.proofs.Common.{◌≡◌, ◌+◌, ◌≤◌, ◌++◌, length, take, vec_len, vec_capacity}
use Rattle.mcap_wire.specs.Maps.{pair_texts}
use Rattle.mcap_wire.proofs.pairs.add_list.Given as goal

abbrev pub invariant-loop-pair : goal.invariant-loop-pair
invariant-loop-pair l = (l.out.items ≡ l.initial.out.items ++ pair_texts (take l.pair-index l.list))
    × (vec_len l.out ≡ vec_len l.initial.out + length (pair_texts (take l.pair-index l.list)))
    × (vec_capacity l.initial.out ≤ vec_capacity l.out)
