use Rattle.std.proofs.Common.{length, sym, subst}
use Rattle.mcap_model.specs.Plain.{cut_top}
use Rattle.summary_read.specs.PartSteps.{cut_tops}
use Rattle.summary_check.specs.Files.{spelled_file, FailsThere}
use Rattle.mcap_model.specs.Whole.{V15}
use Rattle.summary_check.specs.Body.{RuleJudged}
use Rattle.summary_check.specs.Laid.{all_of}
use Rattle.summary_check.proofs.Failing.{offset_flaw}
use Rattle.summary_check.proofs.flaws.judge_offsets.Goals as goal

pub returns-in-Ok-None-clause-ok : goal.returns-in-Ok-None-clause-ok
returns-in-Ok-None-clause-ok c = λ tops foot laid.
    let body = cut_tops c.args.bytes.now c.args.cuts.now in
    subst (RuleJudged V15 (all_of tops body foot) (length tops) body) c.in-Ok-None.field-0-is (c.in-Ok-None.ensures tops foot laid)

pub returns-in-Ok-Some-clause-err : goal.returns-in-Ok-Some-clause-err
returns-in-Ok-Some-clause-err c = λ tops foot filed.
    let bytes = c.args.bytes.now in
    let cuts = c.args.cuts.now in
    let body = cut_tops bytes cuts in
    let (t, at, bad) = subst (RuleJudged V15 (all_of tops body (cut_top bytes foot)) (length tops) body) c.in-Ok-Some.field-0-is (c.in-Ok-Some.ensures tops (cut_top bytes foot) filed.laid) in
    subst (FailsThere (spelled_file tops bytes)) (sym (c.flawed.ensures.fails tops bytes (cut_top bytes foot) t filed.laid at)) (offset_flaw tops bytes cuts foot c.args.start filed c.in-Ok-Some.i t at bad)
