-- A script line by line.
use Rattle.std.proofs.Common.{◌+◌, ◌≤◌, ℕ, length, drop, refl, sym, subst, ◌∙◌, arith}
use Rattle.std.proofs.lemmas.List.{take_rest}
use Rattle.play_clock.specs.Cuts.{Lacks}
use Rattle.play_clock.proofs.LineWords.{word_moment}
use Rattle.play_clock.proofs.ScriptLines.{bad_line, bad_open, word_there, judged_on, judged_script}
use Rattle.play_clock.proofs.Scripts.{scripts_fit}
use Rattle.play_clock.proofs.script.read_script.Goals as goal

pub returns-in-None-clause-refused : goal.returns-in-None-clause-refused
returns-in-None-clause-refused c =
    let was = c.lines.invariant in
    bad_line c.args.bytes.now c.lines.at was.lines c.lines.moment c.lines.number
    (subst (λ (n : ℕ). n ≤ 1000000) c.newlines_in.ensures c.if-newlines_in-gt-SCRIPT_LIMIT.false) was.so_far c.lines-test.true was.number_is
    (bad_open (drop c.lines.at c.args.bytes.now) c.lines.moment (subst (Lacks 10) (take_rest c.args.bytes.now c.lines.at) c.in-None.ensures))

pub returns-in-None-line_in-clause-refused : goal.returns-in-None-line_in-clause-refused
returns-in-None-line_in-clause-refused c =
    let was = c.lines.invariant in
    let there = sym (take_rest c.args.bytes.now c.lines.at) ∙ c.in-Some.ensures.1 in
    bad_line c.args.bytes.now c.lines.at was.lines c.lines.moment c.lines.number
    (subst (λ (n : ℕ). n ≤ 1000000) c.newlines_in.ensures c.if-newlines_in-gt-SCRIPT_LIMIT.false) was.so_far c.lines-test.true was.number_is
    (λ word rest line split is le. c.in-None-line_in.ensures line (word_there (drop c.lines.at c.args.bytes.now) c.in-Some.word.now c.in-Some.field-0-1.now c.in-Some.ensures.0 there word rest line split is))

pub returns-then-line-moment-clause-refused : goal.returns-then-line-moment-clause-refused
returns-then-line-moment-clause-refused c =
    let was = c.lines.invariant in
    let there = sym (take_rest c.args.bytes.now c.lines.at) ∙ c.in-Some.ensures.1 in
    bad_line c.args.bytes.now c.lines.at was.lines c.lines.moment c.lines.number
    (subst (λ (n : ℕ). n ≤ 1000000) c.newlines_in.ensures c.if-newlines_in-gt-SCRIPT_LIMIT.false) was.so_far c.lines-test.true was.number_is
    (λ word rest other split is le.
    let same = word_moment c.in-Some.word.now c.in-Some-line_in.line other c.in-Some-line_in.ensures
    (word_there (drop c.lines.at c.args.bytes.now) c.in-Some.word.now c.in-Some.field-0-1.now c.in-Some.ensures.0 there word rest other split is) in
    let early = c.if-line-moment.true in
    omega (arith, same, early, le))

pub lines-preserved : goal.lines-preserved
lines-preserved c =
    let there = sym (take_rest c.args.bytes.now c.lines.at) ∙ c.in-Some.ensures.1 in
    judged_on c.args.bytes.now c.lines.at (c.lines.at + length c.in-Some.word.now + 1) c.lines.number c.lines.moment c.lines.kept c.kept_with-kept.result c.in-Some-line_in.line c.in-Some.word.now c.in-Some.field-0-1.now
    c.lines.invariant there c.in-Some-line_in.ensures c.if-line-moment.false refl c.kept_with-kept.ensures

pub returns-in-Some-kept-clause-fit : goal.returns-in-Some-kept-clause-fit
returns-in-Some-kept-clause-fit c =
    let was = c.lines.invariant in
    scripts_fit c.args.bytes.now c.in-Some-kept.lines.items
    (judged_script c.args.bytes.now c.lines.at c.lines.number c.lines.moment c.lines.kept c.in-Some-kept.lines (subst (λ (n : ℕ). n ≤ 1000000) c.newlines_in.ensures c.if-newlines_in-gt-SCRIPT_LIMIT.false) was c.lines-test.false c.in-Some-kept.is)
