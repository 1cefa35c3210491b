use Rattle.std.proofs.Common.{arith}
use Rattle.mcap_wire.proofs.ArrayLemmas.{entry_step}
use Rattle.mcap_wire.proofs.counts.add_list.Goals as goal

pub add_u16-requires : goal.add_u16-requires
add_u16-requires c =
    let step = entry_step 2 c.args.list.now c.loop-pair.pair-index c.loop-pair-test.true in
    omega (arith, step.within, c.loop-pair.invariant.1, c.loop-pair.invariant.2, c.requires)

pub add_u64-requires : goal.add_u64-requires
add_u64-requires c =
    let step = entry_step 2 c.args.list.now c.loop-pair.pair-index c.loop-pair-test.true in
    omega (arith, step.within, c.loop-pair.invariant.1, c.loop-pair.invariant.2, c.requires, c.add_u16.ensures.len, c.add_u16.ensures.capacity)
