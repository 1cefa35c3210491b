use Rattle.std.proofs.Common.{rules, ◌≡◌, ◌≢◌, ◌<◌, List, [], length, take, sym, subst, ◌∙◌, arith}
use Rattle.std.proofs.lemmas.List.{get_or_default, take_all}
use Rattle.std.proofs.lemmas.List.Elements.{All-more}
use Rattle.mcap_wire.specs.MapReading.{LacksKey}
use Rattle.mcap_wire.specs.PairBytes.{pairs_in}
use Rattle.mcap_wire.proofs.TextMaps.{Pair}
use Rattle.mcap_wire.proofs.PairWalks.{length-pairs_in, nth, key_here, value_here, walked_on}
use Rattle.mcap_wire.proofs.pair_bytes.has_key.Goals as goal

pub bytes_there-middle-requires-clause-head : goal.bytes_there-middle-requires-clause-head
bytes_there-middle-requires-clause-head c =
    let lt : c.loop-i.i < length (pairs_in c.args.count c.args.bytes.now) = omega (arith, length-pairs_in c.args.count c.args.bytes.now) in
    (key_here c.args.bytes.now (pairs_in c.args.count c.args.bytes.now) c.loop-i.i c.loop-i.at c.requires.is_map.texts lt c.loop-i.invariant.0).head

pub bytes_there-middle-requires-clause-whole : goal.bytes_there-middle-requires-clause-whole
bytes_there-middle-requires-clause-whole c =
    let lt : c.loop-i.i < length (pairs_in c.args.count c.args.bytes.now) = omega (arith, length-pairs_in c.args.count c.args.bytes.now) in
    (key_here c.args.bytes.now (pairs_in c.args.count c.args.bytes.now) c.loop-i.i c.loop-i.at c.requires.is_map.texts lt c.loop-i.invariant.0).whole

pub returns-then-eq : goal.returns-then-eq
returns-then-eq c =
    let pairs = pairs_in c.args.count c.args.bytes.now in
    let lt : c.loop-i.i < length pairs = omega (arith, length-pairs_in c.args.count c.args.bytes.now) in
    let here = key_here c.args.bytes.now pairs c.loop-i.i c.loop-i.at c.requires.is_map.texts lt c.loop-i.invariant.0 in
    let same : c.bytes_there-middle.result.0.now ≡ c.args.key.now = search rules in
    (c.loop-i.i, nth pairs c.loop-i.i, lt, get_or_default pairs c.loop-i.i (nth pairs c.loop-i.i) ([], []) lt, sym here.text_is ∙ sym c.bytes_there-middle.ensures.text ∙ same)

pub bytes_there-end-requires-clause-head : goal.bytes_there-end-requires-clause-head
bytes_there-end-requires-clause-head c =
    let lt : c.loop-i.i < length (pairs_in c.args.count c.args.bytes.now) = omega (arith, length-pairs_in c.args.count c.args.bytes.now) in
    (value_here c.args.bytes.now (pairs_in c.args.count c.args.bytes.now) c.loop-i.i c.loop-i.at c.bytes_there-middle.result.1 c.requires.is_map.texts lt c.loop-i.invariant.0 c.bytes_there-middle.ensures.end).head

pub bytes_there-end-requires-clause-whole : goal.bytes_there-end-requires-clause-whole
bytes_there-end-requires-clause-whole c =
    let lt : c.loop-i.i < length (pairs_in c.args.count c.args.bytes.now) = omega (arith, length-pairs_in c.args.count c.args.bytes.now) in
    (value_here c.args.bytes.now (pairs_in c.args.count c.args.bytes.now) c.loop-i.i c.loop-i.at c.bytes_there-middle.result.1 c.requires.is_map.texts lt c.loop-i.invariant.0 c.bytes_there-middle.ensures.end).whole

pub loop-i-preserved : goal.loop-i-preserved
loop-i-preserved c =
    let pairs = pairs_in c.args.count c.args.bytes.now in
    let lt : c.loop-i.i < length pairs = omega (arith, length-pairs_in c.args.count c.args.bytes.now) in
    let here = key_here c.args.bytes.now pairs c.loop-i.i c.loop-i.at c.requires.is_map.texts lt c.loop-i.invariant.0 in
    let differ : c.bytes_there-middle.result.0.now ≢ c.args.key.now = search rules in (
      walked_on c.args.bytes.now pairs c.loop-i.i c.loop-i.at c.bytes_there-middle.result.1 c.bytes_there-end.result.1 c.requires.is_map.texts lt c.loop-i.invariant.0 c.bytes_there-middle.ensures.end c.bytes_there-end.ensures.end,
      All-more (λ (p : Pair). p.0 ≢ c.args.key.now) pairs c.loop-i.i ([], []) lt c.loop-i.invariant.1 (λ same. differ (c.bytes_there-middle.ensures.text ∙ here.text_is ∙ same)),
    )

pub returns : goal.returns
returns c =
    let pairs = pairs_in c.args.count c.args.bytes.now in
    let all : take c.loop-i.i pairs ≡ pairs = take_all c.loop-i.i pairs (omega (arith, length-pairs_in c.args.count c.args.bytes.now)) in
    subst (λ (l : List Pair). LacksKey l c.args.key.now) all c.loop-i.invariant.1
