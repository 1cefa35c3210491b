use Rattle.std.proofs.Common.{ℕ, ◌≡◌, get_or, sym, ap, subst, inl, inr, ◌∙◌, arith}
use Rattle.std.proofs.lemmas.Bool.{cases_lt, both_ways}
use Rattle.std.proofs.lemmas.Result.{IfOk-weaker}
use Rattle.mcap_model.specs.Places.{At}
use Rattle.mcap_model.proofs.Places.{at_within, at_read, at_one}
use Rattle.mcap_merge.specs.declared.input.Input.{Input}
use Rattle.mcap_model.specs.Merged.{CommonProfile}
use Rattle.mcap_merge.specs.ReadInputs.{read_tops}
use Rattle.mcap_merge.proofs.Profiles.{profiles_differ, profiles_same}
use Rattle.mcap_merge.proofs.profile.common_profile.Goals as goal

pub returns-then-not-is : goal.returns-then-not-is
returns-then-not-is c =
    let inputs = c.args.inputs.now in
    let first = get_or inputs 0 c.index-inputs-0.result in
    let x = get_or inputs c.inputs.i c.index-inputs-i.result in
    let differ : x.profile ≡ first.profile → ⊥ = λ e. both_ways c.is.result c.if-not-is.true (c.is.ensures.1 (e ∙ sym c.as_str.ensures.same)) in
    IfOk-weaker c.copied.result _ _ (λ p is reads hold. subst (CommonProfile (read_tops reads)) (sym is)
    (profiles_differ reads inputs c.inputs.i x first hold (at_read inputs 0 c.index-inputs-0.result c.requires.some) (at_read inputs c.inputs.i c.index-inputs-i.result (omega arith)) differ)) c.copied.ensures

pub inputs-preserved : goal.inputs-preserved
inputs-preserved c = λ k x below at. elim (cases_lt k c.inputs.i) [
  | inl less ↦ c.inputs.invariant k x less at
  | inr ge ↦
      let inputs = c.args.inputs.now in
      let i = c.inputs.i in
      let here : k ≡ i = omega (arith, below, ge) in
      let y = get_or inputs i c.index-inputs-i.result in
      let same : x ≡ y = at_one inputs i x y (subst (λ (n : ℕ). At inputs n x) here at) (at_read inputs i c.index-inputs-i.result (omega arith)) in
      ap (λ (z : Input). z.profile) same ∙ c.is.ensures.0 c.if-not-is.false ∙ c.as_str.ensures.same
]

pub returns : goal.returns
returns c =
    let inputs = c.args.inputs.now in
    let first = get_or inputs 0 c.index-inputs-0.result in
    IfOk-weaker c.copied-2.result _ _ (λ p is reads hold. subst (CommonProfile (read_tops reads)) (sym (is ∙ c.as_str-2.ensures.same))
    (profiles_same reads inputs first hold (at_read inputs 0 c.index-inputs-0.result c.requires.some) (λ k x at. c.inputs.invariant k x (omega (arith, at_within inputs k x at, c.inputs-test.false)) at))) c.copied-2.ensures
