-- Whether a rule is V4, by the numbers by which rules are told.
use Rattle.std.proofs.Common.{◌≡◌, true, false, refl, sym, ap, ◌∙◌}
use Rattle.std.proofs.lemmas.Bool.{false≢true}
use Rattle.mcap_model.specs.RuleNumbers.{same_rule}
use Rattle.mcap_model.specs.declared.rules.Rule.{Rule}
use Rattle.mcap_model.specs.declared.rules.Rule.TheVariants as rules

pub is_v4 : (rule : Rule) → same_rule rule rules.V4 ≡ true → rule ≡ rules.V4
is_v4 rules.V1 e = absurd (false≢true e)
is_v4 rules.V2 e = absurd (false≢true e)
is_v4 rules.V3 e = absurd (false≢true e)
is_v4 rules.V4 e = refl
is_v4 rules.V5 e = absurd (false≢true e)
is_v4 rules.V6 e = absurd (false≢true e)
is_v4 rules.V7 e = absurd (false≢true e)
is_v4 rules.V8 e = absurd (false≢true e)
is_v4 rules.V9 e = absurd (false≢true e)
is_v4 rules.V10 e = absurd (false≢true e)
is_v4 rules.V11 e = absurd (false≢true e)
is_v4 rules.V12 e = absurd (false≢true e)
is_v4 rules.V13 e = absurd (false≢true e)
is_v4 rules.V14 e = absurd (false≢true e)
is_v4 rules.V15 e = absurd (false≢true e)
is_v4 rules.V16 e = absurd (false≢true e)
is_v4 rules.V17 e = absurd (false≢true e)

pub is_not_v4 : (rule : Rule) → same_rule rule rules.V4 ≡ false → rule ≡ rules.V4 → ⊥
is_not_v4 rule other is = false≢true (sym other ∙ ap (λ (r : Rule). same_rule r rules.V4) is)
