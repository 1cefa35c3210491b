use Rattle.std.proofs.Common.{◌≡◌, ℕ, get_or, false, refl, arith}
use Rattle.std.proofs.lemmas.Bool.{both_ways}
use Rattle.mcap_model.proofs.Places.{at_read, at_within}
use Rattle.index_check.proofs.Apart.{front_more}
use Rattle.index_check.proofs.tally.has_key.Goals as goal

pub returns-then-key-channel : goal.returns-then-key-channel
returns-then-key-channel c =
    (λ e. (c.counts.i, get_or c.args.counts.now c.counts.i (0, 0), at_read c.args.counts.now c.counts.i (0, 0) c.counts-test.true, c.if-key-channel.true), λ has. refl)

pub counts-preserved : goal.counts-preserved
counts-preserved c =
    front_more (λ (entry : ℕ × ℕ). entry.0 ≡ c.args.channel → ⊥) c.args.counts.now c.counts.i (get_or c.args.counts.now c.counts.i (0, 0)) c.counts.invariant (at_read c.args.counts.now c.counts.i (0, 0) c.counts-test.true) c.if-key-channel.false

pub returns : goal.returns
returns c = (
  λ e. absurd (both_ways false refl e),
  λ has. absurd (c.counts.invariant has.0 has.1 has.2 (let within = at_within c.args.counts.now has.0 has.1 has.2 in omega (arith, within, c.counts-test.false)) has.3),
)
