use Rattle.std.proofs.Common.{sym, subst}
use Rattle.mcap_model.specs.Plain.{cut_top}
use Rattle.summary_check.specs.Files.{spelled_file, FailsThere}
use Rattle.summary_check.proofs.Failing.{kind_flaw}
use Rattle.summary_check.proofs.flaws.judge_kinds.Goals as goal

pub returns-in-Some-clause-err : goal.returns-in-Some-clause-err
returns-in-Some-clause-err c = λ tops foot filed.
    let bytes = c.args.bytes.now in
    let cuts = c.args.cuts.now in
    let (t, at, judged) = c.in-Some.ensures in
    subst (FailsThere (spelled_file tops bytes)) (sym (c.flawed.ensures.fails tops bytes (cut_top bytes foot) t filed.laid at)) (kind_flaw tops bytes cuts foot c.args.start filed c.in-Some.i c.in-Some.rule t at judged)
