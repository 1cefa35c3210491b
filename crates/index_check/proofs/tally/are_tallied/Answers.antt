use Rattle.std.proofs.Common.{ap, length, inl, inr, ◌∙◌}
use Rattle.index_check.proofs.tally.are_tallied.Goals as goal

pub returns : goal.returns
returns c = (
  λ e. inr (c.are_counts.ensures.0 c.if-not-are_counts.false, c.are_keys.ensures.0 e),
  λ tallied. elim tallied [
    | inl none ↦ absurd (c.if-count-eq0.false (c.count.ensures.count ∙ ap length none))
    | inr both ↦ c.are_keys.ensures.1 both.1
  ],
)
