use Rattle.std.proofs.Common.{sym, subst}
use Rattle.mcap_model.specs.Plain.{cut_top}
use Rattle.summary_read.specs.PartSteps.{cut_tops}
use Rattle.summary_check.specs.Files.{spelled_file, FailsThere}
use Rattle.summary_check.specs.Declaring.{DeclarationsTaken}
use Rattle.summary_check.proofs.Failing.{declaration_flaw}
use Rattle.summary_check.proofs.flaws.judge_declarations.Goals as goal

pub returns-in-Ok-None-clause-ok : goal.returns-in-Ok-None-clause-ok
returns-in-Ok-None-clause-ok c = λ tops are judged.
    subst (DeclarationsTaken tops (cut_tops c.args.bytes.now c.args.cuts.now) c.find_disagreeing.new.tables) c.in-Ok-None.field-0-is (c.in-Ok-None.ensures tops are judged)

pub returns-in-Ok-Some-clause-err : goal.returns-in-Ok-Some-clause-err
returns-in-Ok-Some-clause-err c = λ tops foot filed are judged.
    let bytes = c.args.bytes.now in
    let cuts = c.args.cuts.now in
    let (t, at, bad) = subst (DeclarationsTaken tops (cut_tops bytes cuts) c.find_disagreeing.new.tables) c.in-Ok-Some.field-0-is (c.in-Ok-Some.ensures tops are judged) in
    subst (FailsThere (spelled_file tops bytes)) (sym (c.flawed.ensures.fails tops bytes (cut_top bytes foot) t filed.laid at)) (declaration_flaw tops bytes cuts foot c.args.start filed c.in-Ok-Some.i t judged at bad)
