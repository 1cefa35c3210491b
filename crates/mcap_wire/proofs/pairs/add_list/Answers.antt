use Rattle.std.proofs.Common.{◌≡◌, length, ap, arith}
use Rattle.mcap_wire.proofs.TextMaps.{pair_texts-step}
use Rattle.mcap_wire.proofs.pairs.add_list.Goals as goal

pub add_text-requires-clause-room : goal.add_text-requires-clause-room
add_text-requires-clause-room c =
    let step = pair_texts-step c.args.list.now c.loop-pair.pair-index c.pair-item.result c.loop-pair-test.true c.pair-item.is in
    let key : length c.as_str.result.now ≡ length c.pair-item.result.0 = ap length c.as_str.ensures.same in
    omega (arith, step.size, step.within, c.loop-pair.invariant.1, c.loop-pair.invariant.2, c.requires.room)

pub add_text-requires-in-loop-pair-clause-room : goal.add_text-requires-in-loop-pair-clause-room
add_text-requires-in-loop-pair-clause-room c =
    let step = pair_texts-step c.args.list.now c.loop-pair.pair-index c.pair-item.result c.loop-pair-test.true c.pair-item.is in
    let key : length c.as_str.result.now ≡ length c.pair-item.result.0 = ap length c.as_str.ensures.same in
    let value : length c.as_str-in-loop-pair.result.now ≡ length c.pair-item.result.1 = ap length c.as_str-in-loop-pair.ensures.same in
    omega (arith, step.size, step.within, c.loop-pair.invariant.1, c.loop-pair.invariant.2, c.requires.room, c.add_text.ensures.len, c.add_text.ensures.capacity)
