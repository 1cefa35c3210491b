use Rattle.std.proofs.Common.{◌≡◌, ◌+◌, ◌≤◌, ◌++◌, length, take, vec_len, vec_capacity}
use Rattle.mcap_wire.specs.Arrays.{entry_texts}
use Rattle.mcap_wire.proofs.arrays.add_list.Given as goal

abbrev pub invariant-loop-entry : goal.invariant-loop-entry
invariant-loop-entry l = (l.out.items ≡ l.initial.out.items ++ entry_texts 8 (take l.entry-index l.list))
    × (vec_len l.out ≡ vec_len l.initial.out + length (entry_texts 8 (take l.entry-index l.list)))
    × (vec_capacity l.initial.out ≤ vec_capacity l.out)
