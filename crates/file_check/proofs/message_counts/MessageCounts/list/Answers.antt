use Rattle.std.proofs.Common.{◌≡◌, ℕ, ◌+◌, ◌<◌, List, length, sym, ap, subst, ◌∙◌, arith}
use Rattle.std.specs.Prelude.{slice_index}
use Rattle.std.proofs.lemmas.Grind.{get_or_default_zero}
use Rattle.file_check.specs.MessageCounts.{ListsCounts}
use Rattle.file_check.proofs.Listing.{ListsSoFar, lists_more, lists_skip, lists_all}
use Rattle.file_check.proofs.message_counts.MessageCounts.list.Goals as goal
use Rattle.file_check.proofs.message_counts.MessageCounts.list.Goals.{then-count-ne0+in-Ok, else-count-ne0}

pub counts-preserved : goal.counts-preserved
counts-preserved c =
    let counts = c.self.inside.counts.items in
    let count = c.index-count.result.now in
    let within : c.counts.i < length counts = omega (arith, c.counts-test.true, c.len-i-end.ensures, c.self.inside.counts.ok.0) in
    let read : count ≡ slice_index counts c.counts.i = c.index-count.ensures ∙ get_or_default_zero counts c.counts.i count within in
    elim c.if-count-ne0.branch [
      | then-count-ne0+in-Ok w ↦
          subst (λ (l : List (ℕ × ℕ)). ListsSoFar counts (c.counts.i + 1) l) (sym (ap (λ v. v.items) w.list-is ∙ w.in-Ok.ensures.items))
          (lists_more counts c.counts.i count c.counts.list.items c.counts.invariant read w.if-count-ne0.true)
      | else-count-ne0 w ↦
          subst (λ v. ListsSoFar counts (c.counts.i + 1) v.items) (sym w.list-is)
          (lists_skip counts c.counts.i count c.counts.list.items c.counts.invariant read w.if-count-ne0.false)
    ]

pub returns : goal.returns
returns c =
    subst (λ (l : List ℕ). ListsCounts l c.counts.list.items) c.self.view_is
    (lists_all c.self.inside.counts.items c.counts.i c.counts.list.items c.counts.invariant (omega (arith, c.len-i-end.ensures, c.self.inside.counts.ok.0)))
