use Rattle.std.proofs.Common.{◌≡◌, ◌+◌, length, ap, take, arith}
use Rattle.mcap_wire.specs.Maps.{pair_texts}
use Rattle.mcap_wire.proofs.TextMaps.{pair_texts-step}
use Rattle.mcap_wire.proofs.pairs.list_len.Goals as goal

pub overflow_add-len-in-loop-pair : goal.overflow_add-len-in-loop-pair
overflow_add-len-in-loop-pair c =
    let step = pair_texts-step c.args.list.now c.loop-pair.pair-index c.pair-item.result c.loop-pair-test.true c.pair-item.is in
    let key : length c.as_str.result.now ≡ length c.pair-item.result.0 = ap length c.as_str.ensures.same in
    let value : length c.as_str-in-loop-pair.result.now ≡ length c.pair-item.result.1 = ap length c.as_str-in-loop-pair.ensures.same in
    omega (arith, step.size, step.within, c.requires)

pub overflow_add-len-in-loop-pair-2 : goal.overflow_add-len-in-loop-pair-2
overflow_add-len-in-loop-pair-2 c =
    let step = pair_texts-step c.args.list.now c.loop-pair.pair-index c.pair-item.result c.loop-pair-test.true c.pair-item.is in
    let key : length c.as_str.result.now ≡ length c.pair-item.result.0 = ap length c.as_str.ensures.same in
    let value : length c.as_str-in-loop-pair.result.now ≡ length c.pair-item.result.1 = ap length c.as_str-in-loop-pair.ensures.same in
    omega (arith, step.size, step.within, c.loop-pair.invariant, c.requires)

pub loop-pair-preserved : goal.loop-pair-preserved
loop-pair-preserved c =
    let step = pair_texts-step c.args.list.now c.loop-pair.pair-index c.pair-item.result c.loop-pair-test.true c.pair-item.is in
    let key : length c.as_str.result.now ≡ length c.pair-item.result.0 = ap length c.as_str.ensures.same in
    let value : length c.as_str-in-loop-pair.result.now ≡ length c.pair-item.result.1 = ap length c.as_str-in-loop-pair.ensures.same in
    let next : c.loop-pair.len + (8 + length c.as_str.result.now + length c.as_str-in-loop-pair.result.now) ≡ length (pair_texts (take (c.loop-pair.pair-index + 1) c.args.list.now)) = omega (arith, step.size, c.loop-pair.invariant) in
    next
