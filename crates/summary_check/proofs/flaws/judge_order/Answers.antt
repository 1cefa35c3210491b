use Rattle.std.proofs.Common.{sym, subst}
use Rattle.mcap_model.specs.Plain.{cut_top}
use Rattle.summary_read.specs.PartSteps.{cut_tops}
use Rattle.summary_check.specs.Files.{spelled_file, FailsThere}
use Rattle.summary_check.specs.Body.{OrderJudged}
use Rattle.summary_check.proofs.Failing.{order_flaw}
use Rattle.summary_check.proofs.flaws.judge_order.Goals as goal

pub returns-in-Ok-None-clause-ok : goal.returns-in-Ok-None-clause-ok
returns-in-Ok-None-clause-ok c = λ bytes. subst (OrderJudged (cut_tops bytes c.args.cuts.now)) c.in-Ok-None.field-0-is (c.in-Ok-None.ensures bytes)

pub returns-in-Ok-Some-clause-err : goal.returns-in-Ok-Some-clause-err
returns-in-Ok-Some-clause-err c = λ tops bytes foot filed.
    let cuts = c.args.cuts.now in
    let (t, at, bad) = subst (OrderJudged (cut_tops bytes cuts)) c.in-Ok-Some.field-0-is (c.in-Ok-Some.ensures bytes) in
    subst (FailsThere (spelled_file tops bytes)) (sym (c.flawed.ensures.fails tops bytes (cut_top bytes foot) t filed.laid at)) (order_flaw tops bytes cuts foot c.args.start filed c.in-Ok-Some.i t at bad)
