use Rattle.std.proofs.Common.{List, None, [], ◌∷◌, ◌++◌, sym, subst, ◌∙◌}
use Rattle.mcap_wire.specs.declared.faults.Cut.{Cut}
use Rattle.mcap_model.specs.Places.{Each}
use Rattle.mcap_model.specs.Tops.{Top}
use Rattle.summary_read.specs.PartSteps.{cut_tops, AreInside}
use Rattle.summary_read.specs.Steps.{Judged}
use Rattle.summary_check.specs.Cutting.{AreCutBehind}
use Rattle.summary_check.specs.Judging.{KnownOf}
use Rattle.summary_check.proofs.Filing.{body_inside, sectioned_ended, sectioned_short}
use Rattle.summary_check.proofs.Verdicts.{judged_of}
use Rattle.summary_check.proofs.judging.judge_rest.Goals as goal

pub returns-in-Err-clause-err : goal.returns-in-Err-clause-err
returns-in-Err-clause-err c = λ tops is.
    let kept = is.kept in
    c.in-Err.ensures.err tops (sectioned_ended tops c.args.section.now is) (sectioned_short tops c.args.section.now is) kept.behind

pub is_indexed-requires-clause-inside : goal.is_indexed-requires-clause-inside
is_indexed-requires-clause-inside c =
    let rest = c.args.rest.now in
    let s = c.in-Ok.summary in
    let summary = c.in-Ok.ensures.ok in
    subst (λ (l : List Cut). AreInside rest l) (sym c.deref-2.ensures.value) (body_inside [] rest s.cuts.items s.foot summary.are)

pub is_indexed-requires-clause-judged : goal.is_indexed-requires-clause-judged
is_indexed-requires-clause-judged c =
    subst (λ (l : List Cut). Each (λ (t : Top). Judged t None) (cut_tops c.args.rest.now l)) (c.deref.ensures.value ∙ sym c.deref-2.ensures.value) c.in-Ok-judge_cuts.ensures.judged

pub returns-in-Ok-is_indexed-clause-ok : goal.returns-in-Ok-is_indexed-clause-ok
returns-in-Ok-is_indexed-clause-ok c = λ tops is.
    let rest = c.args.rest.now in
    let s = c.in-Ok.summary in
    let summary = c.in-Ok.ensures.ok in
    let known = c.judge_cuts.new.section in
    let of = subst (λ (l : List Cut). KnownOf tops rest l s.foot known) (c.deref.ensures.value ∙ sym c.deref-2.ensures.value) (c.in-Ok-judge_cuts.ensures.ok tops is) in
    let are = subst (λ (l : List Cut). AreCutBehind rest (l ++ s.foot ∷ [])) (sym c.deref-2.ensures.value) summary.are in
    judged_of tops rest c.deref-2.result.now s.foot known of c.in-Ok-is_indexed.indexed are (c.in-Ok-is_indexed.ensures tops s.foot of)
