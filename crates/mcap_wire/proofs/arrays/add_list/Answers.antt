use Rattle.std.proofs.Common.{arith}
use Rattle.mcap_wire.proofs.ArrayLemmas.{entry_step}
use Rattle.mcap_wire.proofs.arrays.add_list.Goals as goal

pub add_u64-requires : goal.add_u64-requires
add_u64-requires c =
    let step = entry_step 8 c.args.list.now c.loop-entry.entry-index c.loop-entry-test.true in
    omega (arith, step.within, c.loop-entry.invariant.1, c.loop-entry.invariant.2, c.requires)

pub add_u64-requires-in-loop-entry : goal.add_u64-requires-in-loop-entry
add_u64-requires-in-loop-entry c =
    let step = entry_step 8 c.args.list.now c.loop-entry.entry-index c.loop-entry-test.true in
    omega (arith, step.within, c.loop-entry.invariant.1, c.loop-entry.invariant.2, c.requires, c.add_u64.ensures.len, c.add_u64.ensures.capacity)
