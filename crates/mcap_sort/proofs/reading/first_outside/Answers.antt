use Rattle.std.proofs.Common.{ℕ, ◌+◌, ◌-◌, ◌<◌, ◌≤◌, List, length, get_or, take, sym, subst, arith}
use Rattle.mcap_model.proofs.Places.{at_read}
use Rattle.mcap_model.proofs.OneMore.{each_last, taken_more}
use Rattle.mcap_model.proofs.NamedTopics.{take_past}
use Rattle.merge_walk.specs.declared.spans.Span.{Span}
use Rattle.mcap_merge.specs.ReadingSteps.{EndWithin}
use Rattle.mcap_sort.proofs.reading.first_outside.Goals as goal

one_more : (len : ℕ) (spans : List Span) (i : ℕ) (d : Span) → i < length spans → EndWithin len (take i spans) → (get_or spans i d).at ≤ len → (get_or spans i d).length ≤ len - (get_or spans i d).at → EndWithin len (take (i + 1) spans)
one_more len spans i d within before begins ends =
    let x = get_or spans i d in
    subst (EndWithin len) (sym (taken_more spans i x (at_read spans i d within))) (each_last (λ (s : Span). s.at + s.length ≤ len) (take i spans) x before (omega (arith, begins, ends)))

pub spans-preserved : goal.spans-preserved
spans-preserved c = one_more c.args.len c.args.spans.now c.spans.i _ c.spans-test.true c.spans.invariant c.if-span-len.false c.if-span-len-2.false

pub returns : goal.returns
returns c = subst (EndWithin c.args.len) (take_past c.spans.i c.args.spans.now c.spans-test.false) c.spans.invariant
