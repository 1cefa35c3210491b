use Rattle.std.proofs.Common.{◌≡◌, ℕ, get_or, false, refl, sym, subst, inl, inr, ◌∙◌, arith}
use Rattle.std.proofs.lemmas.Bool.{both_ways}
use Rattle.mcap_model.specs.Places.{At}
use Rattle.mcap_model.proofs.Places.{at_read, at_within}
use Rattle.index_check.proofs.Apart.{front_more, pair_is, pair_tested}
use Rattle.index_check.proofs.tally.has_count.Goals as goal

pub returns-then-eq : goal.returns-then-eq
returns-then-eq c = (
  λ e.
      let entry = get_or c.args.counts.now c.args.guess (0, 0) in
      (c.args.guess, subst (λ (p : ℕ × ℕ). At c.args.counts.now c.args.guess p) (pair_tested entry c.args.channel c.args.count (sym c.eq.ensures ∙ c.if-eq.true)) (at_read c.args.counts.now c.args.guess (0, 0) c.if-guess-counts.true)),
  λ has. refl,
)

pub returns-then-value-count : goal.returns-then-value-count
returns-then-value-count c = (
  λ e.
      let entry = get_or c.args.counts.now c.counts.i (0, 0) in
      (c.counts.i, subst (λ (p : ℕ × ℕ). At c.args.counts.now c.counts.i p) (pair_is entry c.args.channel c.args.count c.if-key-channel.true c.if-value-count.true) (at_read c.args.counts.now c.counts.i (0, 0) c.counts-test.true)),
  λ has. refl,
)

pub counts-preserved : goal.counts-preserved
counts-preserved c =
    front_more (λ (entry : ℕ × ℕ). (entry.0 ≡ c.args.channel) × (entry.1 ≡ c.args.count) → ⊥) c.args.counts.now c.counts.i (get_or c.args.counts.now c.counts.i (0, 0)) c.counts.invariant (at_read c.args.counts.now c.counts.i (0, 0) c.counts-test.true)
    (λ is. elim c.else-key-channel.either [ inl one ↦ one.1 is.1 | inr other ↦ other is.0 ])

pub returns : goal.returns
returns c = (
  λ e. absurd (both_ways false refl e),
  λ has. absurd (c.counts.invariant has.0 (c.args.channel, c.args.count) has.1 (let within = at_within c.args.counts.now has.0 (c.args.channel, c.args.count) has.1 in omega (arith, within, c.counts-test.false)) (refl, refl)),
)
