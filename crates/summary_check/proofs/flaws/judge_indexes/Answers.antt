use Rattle.std.proofs.Common.{length, sym, subst}
use Rattle.mcap_model.specs.Plain.{cut_top}
use Rattle.summary_read.specs.PartSteps.{cut_tops}
use Rattle.summary_check.specs.Files.{spelled_file, FailsThere}
use Rattle.summary_check.specs.Filed.{records_of}
use Rattle.summary_check.proofs.Laying.{body_there}
use Rattle.summary_check.proofs.Failing.{index_flaw}
use Rattle.summary_check.proofs.flaws.judge_indexes.Goals as goal

pub returns-in-None-clause-ok : goal.returns-in-None-clause-ok
returns-in-None-clause-ok c = λ all base stand was. c.in-None.ensures all base stand was

pub returns-in-Some-clause-err : goal.returns-in-Some-clause-err
returns-in-Some-clause-err c = λ tops foot filed judged was.
    let bytes = c.args.bytes.now in
    let cuts = c.args.cuts.now in
    let (t, at, breaks) = c.in-Some.ensures (records_of tops bytes cuts foot) (length tops) (body_there tops (cut_tops bytes cuts) (cut_top bytes foot)) was in
    subst (FailsThere (spelled_file tops bytes)) (sym (c.flawed.ensures.fails tops bytes (cut_top bytes foot) t filed.laid at)) (index_flaw tops bytes cuts foot c.args.start filed c.in-Some.i c.in-Some.rule t judged at breaks)
