use Rattle.std.proofs.Common.{ℕ, false, refl, arith}
use Rattle.std.proofs.lemmas.Bool.{both_ways}
use Rattle.mcap_model.proofs.Places.{at_within}
use Rattle.index_check.specs.Tally.{IsCountOf}
use Rattle.index_check.proofs.Apart.{front_more}
use Rattle.index_check.proofs.tally.are_counts.Goals as goal

pub returns-then-not-is_count_of : goal.returns-then-not-is_count_of
returns-then-not-is_count_of c = (
  λ e. absurd (both_ways false refl e),
  λ right. absurd (both_ways c.is_count_of.result c.if-not-is_count_of.true (c.is_count_of.ensures.1 (right c.counts.i c.item-channel.result c.item-channel.ensures))),
)

pub counts-preserved : goal.counts-preserved
counts-preserved c =
    front_more (λ (entry : ℕ × ℕ). IsCountOf c.args.counts.now entry.0 entry.1) c.args.map.now c.counts.i c.item-channel.result c.counts.invariant c.item-channel.ensures (c.is_count_of.ensures.0 c.if-not-is_count_of.false)

pub returns : goal.returns
returns c = (
  λ e n x at. c.counts.invariant n x at (let within = at_within c.args.map.now n x at in omega (arith, within, c.counts-test.false, c.count-i-end.ensures.count)),
  λ right. refl,
)
