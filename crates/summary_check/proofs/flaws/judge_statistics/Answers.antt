use Rattle.std.proofs.Common.{length, sym, subst}
use Rattle.mcap_model.specs.Plain.{cut_top}
use Rattle.summary_check.specs.Files.{spelled_file, FailsThere}
use Rattle.summary_check.specs.Filed.{records_of}
use Rattle.summary_check.proofs.Failing.{statistics_flaw}
use Rattle.summary_check.proofs.flaws.judge_statistics.Goals as goal

pub returns-in-Some-clause-err : goal.returns-in-Some-clause-err
returns-in-Some-clause-err c = λ tops section foot filed judged was.
    let bytes = c.args.bytes.now in
    let cuts = c.args.cuts.now in
    let (t, at, bad) = c.in-Some.ensures (records_of tops bytes cuts foot) section (length tops) was in
    subst (FailsThere (spelled_file tops bytes)) (sym (c.flawed.ensures.fails tops bytes (cut_top bytes foot) t filed.laid at)) (statistics_flaw tops bytes cuts foot c.args.start filed c.in-Some.i t judged at bad)
