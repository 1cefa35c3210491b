use Rattle.std.proofs.Common.{Result, sym, subst, ◌∙◌}
use Rattle.mcap_model.specs.declared.checked.Verdict.{Verdict}
use Rattle.mcap_model.specs.declared.refusals.ReadingRefused.{ReadingRefused}
use Rattle.file_check.specs.Checking.{Checked}
use Rattle.file_check.proofs.Judged.{judges, told_file}
use Rattle.file_check.proofs.checking.judge_behind.Goals as goal

pub returns-in-Err-clause-tells : goal.returns-in-Err-clause-tells
returns-in-Err-clause-tells g c = λ file told ended front. c.in-Err.ensures.unchecked file

pub returns-in-Ok-clause-tells : goal.returns-in-Ok-clause-tells
returns-in-Ok-clause-tells g c = λ file told ended front.
    let bytes = c.deref.result.now in
    let judged = c.judge_summary.result in
    let counts = c.counts_of-counts.result in
    let given = c.deref.ensures.value ∙ c.in-Ok.ensures.gives file told in
    subst (λ (r : Result Verdict ReadingRefused). Checked file r) (sym c.tell.ensures.told)
    (told_file file c.args.end c.args.section ended front bytes judged counts given (judges c.args.section bytes judged c.judge_summary.ensures.ok c.judge_summary.ensures.err) (c.counts_of-counts.ensures front.tops front.kept))
