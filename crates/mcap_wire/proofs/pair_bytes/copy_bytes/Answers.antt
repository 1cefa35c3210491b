use Rattle.std.proofs.Common.{◌≡◌, ◌+◌, ◌++◌, ◌∷◌, ◌<◌, [], length, take, ap, ◌∙◌, arith}
use Rattle.std.proofs.lemmas.List.{take_all}
use Rattle.mcap_wire.specs.PairBytes.{pairs_in}
use Rattle.mcap_wire.proofs.TextMaps.{Pair}
use Rattle.mcap_wire.proofs.PairWalks.{length-pairs_in, key_is_text, value_is_text, pair_decided, pair_copied}
use Rattle.mcap_wire.proofs.pair_bytes.copy_bytes.Goals as goal

pub text_there-key-requires : goal.text_there-key-requires
text_there-key-requires c =
    let lt : c.loop-i.i < length (pairs_in c.args.count c.args.bytes.now) = omega (arith, length-pairs_in c.args.count c.args.bytes.now) in
    key_is_text c.args.bytes.now (pairs_in c.args.count c.args.bytes.now) c.loop-i.i c.loop-i.at c.requires.is_map.texts lt c.loop-i.invariant.0

pub text_there-value-requires : goal.text_there-value-requires
text_there-value-requires c =
    let lt : c.loop-i.i < length (pairs_in c.args.count c.args.bytes.now) = omega (arith, length-pairs_in c.args.count c.args.bytes.now) in
    value_is_text c.args.bytes.now (pairs_in c.args.count c.args.bytes.now) c.loop-i.i c.loop-i.at c.text_there-key.result.0.now c.text_there-key.result.1 c.requires.is_map.texts lt c.loop-i.invariant.0 c.text_there-key.ensures

pub loop-i-preserved : goal.loop-i-preserved
loop-i-preserved c =
    let bytes = c.args.bytes.now in
    let pairs = pairs_in c.args.count bytes in
    let lt : c.loop-i.i < length pairs = omega (arith, length-pairs_in c.args.count bytes) in
    let key = c.text_there-key.result in
    let value = c.text_there-value.result in
    let copied : c.loop-i.pairs.items ++ (key.0.now, value.0.now) ∷ [] ≡ take (c.loop-i.i + 1) pairs =
    pair_copied bytes pairs c.loop-i.pairs.items c.loop-i.i c.loop-i.at key.0.now key.1 value.0.now value.1 c.requires.is_map.texts lt c.loop-i.invariant.0 c.text_there-key.ensures c.text_there-value.ensures c.loop-i.invariant.1 in
    let pushed : c.push.new.self.items ≡ c.loop-i.pairs.items ++ (key.0.now, value.0.now) ∷ [] =
    c.in_ok-push.ensures.items ∙ ap (λ (p : Pair). c.loop-i.pairs.items ++ p ∷ []) c.in_ok-pair.ensures in
    ((pair_decided bytes pairs c.loop-i.i c.loop-i.at key.0.now key.1 value.0.now value.1 c.requires.is_map.texts lt c.loop-i.invariant.0 c.text_there-key.ensures c.text_there-value.ensures).1, pushed ∙ copied)

pub returns : goal.returns
returns c =
    c.loop-i.invariant.1 ∙ take_all c.loop-i.i (pairs_in c.args.count c.args.bytes.now) (omega (arith, length-pairs_in c.args.count c.args.bytes.now))
