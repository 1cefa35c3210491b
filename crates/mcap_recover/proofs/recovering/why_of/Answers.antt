use Rattle.std.proofs.Common.{refl, sym, ◌∙◌, inl, inr}
use Rattle.mcap_recover.proofs.Rules.{is_v4, is_not_v4}
use Rattle.mcap_recover.proofs.recovering.why_of.Goals as goal

pub returns-then-is : goal.returns-then-is
returns-then-is c = inl (is_v4 c.args.rule (sym c.is.ensures ∙ c.if-is.true), refl)

pub returns : goal.returns
returns c = inr (is_not_v4 c.args.rule (sym c.is.ensures ∙ c.if-is.false), refl)
