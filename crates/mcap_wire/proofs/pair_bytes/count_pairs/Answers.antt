use Rattle.std.proofs.Common.{◌≡◌, false, List, ℕ, [], take, sym, subst, arith}
use Rattle.std.specs.Ordering.{nat_cmp, is_gt}
use Rattle.std.specs.Cmp.Lexicographic.{slice_cmp}
use Rattle.mcap_wire.specs.declared.faults.Why.TheVariants.{DoubleKey}
use Rattle.mcap_wire.specs.MapReading.{HasKey, LacksKey}
use Rattle.mcap_wire.specs.PairBytes.{pairs_in, NoneAbove}
use Rattle.mcap_wire.proofs.TextMaps.{Pair}
use Rattle.mcap_wire.proofs.PairWalks.{length-pairs_in, one_more, empty_is_held, none_above_more, pairs_stop, key_fails, value_fails}
use Rattle.mcap_wire.proofs.pair_bytes.count_pairs.Goals as goal

pub loop-at-init : goal.loop-at-init
loop-at-init c =
    (omega arith, omega arith, empty_is_held c.args.bytes.now, λ k d lt. absurd (omega (arith, length-pairs_in 0 [])))

pub returns-in-Err : goal.returns-in-Err
returns-in-Err c =
    let bytes = c.args.bytes.now in
    pairs_stop bytes c.loop-at.count c.loop-at.at c.in-Err.why c.loop-at-test.true c.loop-at.invariant.2
    (key_fails (pairs_in c.loop-at.count (take c.loop-at.at bytes)) bytes c.loop-at.at c.in-Err.why c.in-Err.ensures)

pub returns-in-Double : goal.returns-in-Double
returns-in-Double c =
    let bytes = c.args.bytes.now in
    let before = pairs_in c.loop-at.count (take c.loop-at.at bytes) in
    let double : HasKey before c.in-Ok.read.0.now = subst (λ (key : List ℕ). HasKey before key) c.as_bytes.ensures.value c.in-Double.ensures in
    pairs_stop bytes c.loop-at.count c.loop-at.at DoubleKey c.loop-at-test.true c.loop-at.invariant.2
    (c.in-Ok.read.0.now, c.in-Ok.read.1, c.in-Ok.ensures, double)

pub returns-in-Err-take_part : goal.returns-in-Err-take_part
returns-in-Err-take_part c =
    let bytes = c.args.bytes.now in
    let before = pairs_in c.loop-at.count (take c.loop-at.at bytes) in
    let new : LacksKey before c.in-Ok.read.0.now = subst (λ (key : List ℕ). LacksKey before key) c.as_bytes.ensures.value c.in-New.ensures in
    pairs_stop bytes c.loop-at.count c.loop-at.at c.in-Err-take_part.why c.loop-at-test.true c.loop-at.invariant.2
    (value_fails before bytes c.loop-at.at c.in-Ok.read.0.now c.in-Ok.read.1 c.in-Err-take_part.why c.in-Ok.ensures new c.in-Err-take_part.ensures)

pub loop-at-preserved : goal.loop-at-preserved
loop-at-preserved c =
    let bytes = c.args.bytes.now in
    let before = pairs_in c.loop-at.count (take c.loop-at.at bytes) in
    let key = c.in-Ok.read.0.now in
    let value = c.in-Ok-take_part.read.0.now in
    let end = c.in-Ok-take_part.read.1 in
    let top = c.larger-largest.result.now in
    let new : LacksKey before key = subst (λ (k : List ℕ). LacksKey before k) c.as_bytes.ensures.value c.in-New.ensures in
    let more = one_more bytes c.loop-at.count c.loop-at.at c.in-Ok.read.1 end key value c.loop-at.invariant.2 c.in-Ok.ensures c.in-Ok-take_part.ensures new in
    let below : is_gt (slice_cmp nat_cmp key top) ≡ false = subst (λ (k : List ℕ). is_gt (slice_cmp nat_cmp k top) ≡ false) c.as_bytes-in-loop-at.ensures.value c.larger-largest.ensures.other in (
      c.in-Ok-take_part.ensures.field.ends,
      omega (arith, c.in-Ok.ensures.size, c.in-Ok-take_part.ensures.size),
      more.0,
      subst (λ (l : List Pair). NoneAbove l top) (sym more.1) (none_above_more before c.loop-at.largest.now key value top c.loop-at.invariant.3 c.larger-largest.ensures.one below),
    )
