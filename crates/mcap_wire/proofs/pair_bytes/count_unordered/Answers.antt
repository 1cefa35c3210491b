use Rattle.std.proofs.Common.{◌≡◌, List, ℕ, [], take, sym, subst, arith}
use Rattle.std.proofs.lemmas.List.{append-nil, take_all}
use Rattle.mcap_wire.specs.PairBytes.{pairs_in, SpellsPairs, IsFirstFaultBehind}
use Rattle.mcap_wire.proofs.PairWalks.{one_more_spelled, empty_is_spelled, spelled_is_held}
use Rattle.mcap_wire.proofs.DoubleKeys.{twice_stops, stops_at_key, stops_at_value}
use Rattle.mcap_wire.proofs.pair_bytes.count_unordered.Goals as goal

pub loop-at-init : goal.loop-at-init
loop-at-init c = (omega arith, omega arith, empty_is_spelled c.args.bytes.now)

pub returns-in-Err : goal.returns-in-Err
returns-in-Err c =
    stops_at_key c.args.bytes.now c.loop-at.count c.loop-at.at c.in-Err.why c.key_fault.result c.loop-at-test.true c.loop-at.invariant.2 c.in-Err.ensures c.key_fault.ensures

pub returns-in-Err-take_part : goal.returns-in-Err-take_part
returns-in-Err-take_part c =
    let before = pairs_in c.loop-at.count (take c.loop-at.at c.args.bytes.now) in
    let why = c.in-Err-take_part.why in
    stops_at_value c.args.bytes.now c.loop-at.count c.loop-at.at c.in-Ok.read.0.now c.in-Ok.read.1 why c.value_fault.result c.loop-at-test.true c.loop-at.invariant.2 c.in-Ok.ensures c.in-Err-take_part.ensures
    (subst (λ (key : List ℕ). IsFirstFaultBehind before key why c.value_fault.result) c.as_bytes.ensures.value c.value_fault.ensures)

pub loop-at-preserved : goal.loop-at-preserved
loop-at-preserved c = (
  c.in-Ok-take_part.ensures.field.ends,
  omega (arith, c.in-Ok.ensures.size, c.in-Ok-take_part.ensures.size),
  one_more_spelled c.args.bytes.now c.loop-at.count c.loop-at.at c.in-Ok.read.1 c.in-Ok-take_part.read.1 c.in-Ok.read.0.now c.in-Ok-take_part.read.0.now c.loop-at.invariant.2 c.in-Ok.ensures c.in-Ok-take_part.ensures,
)

pub returns-then-has_double : goal.returns-then-has_double
returns-then-has_double c =
    let bytes = c.args.bytes.now in
    let all : take c.loop-at.at bytes ≡ bytes = take_all c.loop-at.at bytes c.loop-at-test.false in
    twice_stops bytes bytes [] c.loop-at.count (sym (append-nil bytes)) (subst (λ (l : List ℕ). SpellsPairs l c.loop-at.count) all c.loop-at.invariant.2) c.if-has_double.ensures

pub returns : goal.returns
returns c =
    let bytes = c.args.bytes.now in
    let all : take c.loop-at.at bytes ≡ bytes = take_all c.loop-at.at bytes c.loop-at-test.false in
    spelled_is_held bytes c.loop-at.count (subst (λ (l : List ℕ). SpellsPairs l c.loop-at.count) all c.loop-at.invariant.2) c.if-has_double.ensures
