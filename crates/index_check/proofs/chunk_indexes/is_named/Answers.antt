use Rattle.std.proofs.Common.{◌≡◌, ℕ, false, refl, sym, subst, inl, inr, ◌∙◌, arith}
use Rattle.std.proofs.lemmas.Bool.{both_ways}
use Rattle.mcap_model.specs.Places.{At}
use Rattle.mcap_model.proofs.Places.{at_within}
use Rattle.index_check.proofs.Apart.{front_more, pair_is, pair_tested}
use Rattle.index_check.proofs.chunk_indexes.is_named.Goals as goal

pub returns-then-eq : goal.returns-then-eq
returns-then-eq c =
    (λ e. (c.args.guess, subst (λ (p : ℕ × ℕ). At c.args.map.now c.args.guess p) (pair_tested c.item.result c.args.channel c.args.offset (sym c.eq.ensures ∙ c.if-eq.true)) c.item.ensures), λ has. refl)

pub returns-then-value-offset : goal.returns-then-value-offset
returns-then-value-offset c =
    (λ e. (c.names.i, subst (λ (p : ℕ × ℕ). At c.args.map.now c.names.i p) (pair_is c.item-key.result c.args.channel c.args.offset c.if-key-channel.true c.if-value-offset.true) c.item-key.ensures), λ has. refl)

pub names-preserved : goal.names-preserved
names-preserved c =
    front_more (λ (name : ℕ × ℕ). (name.0 ≡ c.args.channel) × (name.1 ≡ c.args.offset) → ⊥) c.args.map.now c.names.i c.item-key.result c.names.invariant c.item-key.ensures
    (λ is. elim c.else-key-channel.either [ inl one ↦ one.1 is.1 | inr other ↦ other is.0 ])

pub returns : goal.returns
returns c = (
  λ e. absurd (both_ways false refl e),
  λ has. absurd (c.names.invariant has.0 (c.args.channel, c.args.offset) has.1 (let within = at_within c.args.map.now has.0 (c.args.channel, c.args.offset) has.1 in omega (arith, within, c.names-test.false, c.count-i-end.ensures.count)) (refl, refl)),
)
