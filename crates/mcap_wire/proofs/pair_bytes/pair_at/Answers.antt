use Rattle.std.proofs.Common.{◌≡◌, ◌<◌, ℕ, length, ap, ◌∙◌, arith}
use Rattle.std.specs.Prelude.{slice_get}
use Rattle.mcap_wire.specs.PairBytes.{pairs_in}
use Rattle.mcap_wire.proofs.PairWalks.{length-pairs_in, key_here, value_here, walked_on, key_is_text, value_is_text, pair_read}
use Rattle.mcap_wire.proofs.pair_bytes.pair_at.Goals as goal

pub bytes_there-middle-requires-clause-head : goal.bytes_there-middle-requires-clause-head
bytes_there-middle-requires-clause-head c =
    let lt : c.loop-k.k < length (pairs_in c.args.count c.args.bytes.now) = omega (arith, length-pairs_in c.args.count c.args.bytes.now) in
    (key_here c.args.bytes.now (pairs_in c.args.count c.args.bytes.now) c.loop-k.k c.loop-k.at c.requires.map.is_map.texts lt c.loop-k.invariant).head

pub bytes_there-middle-requires-clause-whole : goal.bytes_there-middle-requires-clause-whole
bytes_there-middle-requires-clause-whole c =
    let lt : c.loop-k.k < length (pairs_in c.args.count c.args.bytes.now) = omega (arith, length-pairs_in c.args.count c.args.bytes.now) in
    (key_here c.args.bytes.now (pairs_in c.args.count c.args.bytes.now) c.loop-k.k c.loop-k.at c.requires.map.is_map.texts lt c.loop-k.invariant).whole

pub bytes_there-end-requires-clause-head : goal.bytes_there-end-requires-clause-head
bytes_there-end-requires-clause-head c =
    let lt : c.loop-k.k < length (pairs_in c.args.count c.args.bytes.now) = omega (arith, length-pairs_in c.args.count c.args.bytes.now) in
    (value_here c.args.bytes.now (pairs_in c.args.count c.args.bytes.now) c.loop-k.k c.loop-k.at c.bytes_there-middle.result.1 c.requires.map.is_map.texts lt c.loop-k.invariant c.bytes_there-middle.ensures.end).head

pub bytes_there-end-requires-clause-whole : goal.bytes_there-end-requires-clause-whole
bytes_there-end-requires-clause-whole c =
    let lt : c.loop-k.k < length (pairs_in c.args.count c.args.bytes.now) = omega (arith, length-pairs_in c.args.count c.args.bytes.now) in
    (value_here c.args.bytes.now (pairs_in c.args.count c.args.bytes.now) c.loop-k.k c.loop-k.at c.bytes_there-middle.result.1 c.requires.map.is_map.texts lt c.loop-k.invariant c.bytes_there-middle.ensures.end).whole

pub loop-k-preserved : goal.loop-k-preserved
loop-k-preserved c =
    let lt : c.loop-k.k < length (pairs_in c.args.count c.args.bytes.now) = omega (arith, length-pairs_in c.args.count c.args.bytes.now) in
    walked_on c.args.bytes.now (pairs_in c.args.count c.args.bytes.now) c.loop-k.k c.loop-k.at c.bytes_there-middle.result.1 c.bytes_there-end.result.1 c.requires.map.is_map.texts lt c.loop-k.invariant c.bytes_there-middle.ensures.end c.bytes_there-end.ensures.end

pub text_there-key-requires : goal.text_there-key-requires
text_there-key-requires c =
    let lt : c.loop-k.k < length (pairs_in c.args.count c.args.bytes.now) = omega (arith, c.requires.index, length-pairs_in c.args.count c.args.bytes.now) in
    key_is_text c.args.bytes.now (pairs_in c.args.count c.args.bytes.now) c.loop-k.k c.loop-k.at c.requires.map.is_map.texts lt c.loop-k.invariant

pub text_there-value-requires : goal.text_there-value-requires
text_there-value-requires c =
    let lt : c.loop-k.k < length (pairs_in c.args.count c.args.bytes.now) = omega (arith, c.requires.index, length-pairs_in c.args.count c.args.bytes.now) in
    value_is_text c.args.bytes.now (pairs_in c.args.count c.args.bytes.now) c.loop-k.k c.loop-k.at c.text_there-key.result.0.now c.text_there-key.result.1 c.requires.map.is_map.texts lt c.loop-k.invariant c.text_there-key.ensures

pub returns : goal.returns
returns c =
    let pairs = pairs_in c.args.count c.args.bytes.now in
    let lt : c.loop-k.k < length pairs = omega (arith, c.requires.index, length-pairs_in c.args.count c.args.bytes.now) in
    let last : c.args.i ≡ c.loop-k.k = omega arith in
    ap (λ (n : ℕ). slice_get pairs n) last
    ∙ pair_read c.args.bytes.now pairs c.loop-k.k c.loop-k.at c.text_there-key.result.0.now c.text_there-key.result.1 c.text_there-value.result.0.now c.text_there-value.result.1 c.requires.map.is_map.texts lt c.loop-k.invariant c.text_there-key.ensures c.text_there-value.ensures
