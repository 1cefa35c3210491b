use Rattle.std.proofs.Common.{◌<◌, ℕ, length, false, refl, arith}
use Rattle.std.proofs.lemmas.Bool.{both_ways}
use Rattle.mcap_model.proofs.Places.{at_read, at_within}
use Rattle.index_check.specs.Tally.{HasChannelCount}
use Rattle.index_check.proofs.Apart.{front_more}
use Rattle.index_check.proofs.tally.are_keys.Goals as goal

pub returns-then-not-maps_entry : goal.returns-then-not-maps_entry
returns-then-not-maps_entry c = (
  λ e. absurd (both_ways false refl e),
  λ keys.
      let within : c.counts.i < length c.args.counts.now = omega (arith, c.counts-test.true) in
      absurd (both_ways c.maps_entry.result c.if-not-maps_entry.true (c.maps_entry.ensures.1 (keys c.counts.i _ (at_read c.args.counts.now c.counts.i _ within)))),
)

pub counts-preserved : goal.counts-preserved
counts-preserved c =
    let within : c.counts.i < length c.args.counts.now = omega (arith, c.counts-test.true) in
    front_more (λ (entry : ℕ × ℕ). HasChannelCount c.args.map.now entry.0) c.args.counts.now c.counts.i _ c.counts.invariant (at_read c.args.counts.now c.counts.i _ within) (c.maps_entry.ensures.0 c.if-not-maps_entry.false)

pub returns : goal.returns
returns c = (
  λ e n x at. c.counts.invariant n x at (let within = at_within c.args.counts.now n x at in omega (arith, within, c.counts-test.false)),
  λ keys. refl,
)
