use Rattle.std.proofs.Common.{◌≡◌, ◌<◌, length, true, false, refl, arith}
use Rattle.std.proofs.lemmas.Bool.{both_ways}
use Rattle.index_check.specs.declared.spots.Spot.{Spot}
use Rattle.mcap_model.proofs.Places.{at_read, at_within}
use Rattle.index_check.proofs.Apart.{front_more}
use Rattle.index_check.proofs.spots.all_named.Goals as goal

pub returns-then-not-is_named : goal.returns-then-not-is_named
returns-then-not-is_named c = (
  λ e. absurd (both_ways false refl e),
  λ has.
      let within : c.spots.i < length c.args.spots.now = omega (arith, c.spots-test.true) in
      absurd (both_ways c.is_named.result c.if-not-is_named.true (c.is_named.ensures.1 (has c.spots.i _ (at_read c.args.spots.now c.spots.i _ within)))),
)

pub spots-preserved : goal.spots-preserved
spots-preserved c =
    let within : c.spots.i < length c.args.spots.now = omega (arith, c.spots-test.true) in
    front_more (λ (s : Spot). s.named ≡ true) c.args.spots.now c.spots.i _ c.spots.invariant (at_read c.args.spots.now c.spots.i _ within) (c.is_named.ensures.0 c.if-not-is_named.false)

pub returns : goal.returns
returns c = (
  λ e n x at. c.spots.invariant n x at (let within = at_within c.args.spots.now n x at in omega (arith, within, c.spots-test.false)),
  λ has. refl,
)
