use Rattle.summary_read.proofs.FileEnds.{ends_in, ends_out, no_other}
use Rattle.summary_read.proofs.ends.judge_end.Goals as goal

pub returns-then-footer-eq0-clause-judged : goal.returns-then-footer-eq0-clause-judged
returns-then-footer-eq0-clause-judged c = λ file size is.
    let ends = ends_in file c.args.end.now c.args.len c.in-Some.footer size c.requires.whole is c.in-Some.ensures in
    (tt, (c.in-Some.footer, ends, c.if-footer-eq0.true))

pub returns-in-Ok-clause-judged : goal.returns-in-Ok-clause-judged
returns-in-Ok-clause-judged c = λ file size is.
    let ends = ends_in file c.args.end.now c.args.len c.in-Some.footer size c.requires.whole is c.in-Some.ensures in
    c.in-Ok.ensures.judged file size is ends (λ no. c.if-footer-eq0.false (no_other file c.in-Some.footer ends no))

pub returns-in-Err-clause-judged : goal.returns-in-Err-clause-judged
returns-in-Err-clause-judged c = λ file size is.
    let ends = ends_in file c.args.end.now c.args.len c.in-Some.footer size c.requires.whole is c.in-Some.ensures in
    c.in-Err.ensures.judged file size is ends (λ no. c.if-footer-eq0.false (no_other file c.in-Some.footer ends no))

pub returns-in-None-clause-judged : goal.returns-in-None-clause-judged
returns-in-None-clause-judged c = λ file size is.
    c.judge_without_footer.ensures.judged file size is (λ f ends. ends_out file c.args.end.now c.args.len f size is c.in-None.ensures ends)
