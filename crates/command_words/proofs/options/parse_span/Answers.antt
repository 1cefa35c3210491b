-- The times are those of the parts round the first colon.
use Rattle.std.proofs.Common.{sym, subst}
use Rattle.command_words.specs.Items.{Word}
use Rattle.command_words.specs.Commands.{IsNumber}
use Rattle.command_words.proofs.OptionLemmas.{parts_of_span}
use Rattle.command_words.proofs.options.parse_span.Goals as goal

pub returns-in_default-clause-bad : goal.returns-in_default-clause-bad
returns-in_default-clause-bad c = λ span is.
    let parts = parts_of_span c.args.word.now span is c.split_once.result c.split_once.ensures.cases in
    rw c.in_default.is at parts

pub returns-in-Err-parse_number-clause-bad : goal.returns-in-Err-parse_number-clause-bad
returns-in-Err-parse_number-clause-bad c = λ span is.
    let parts = parts_of_span c.args.word.now span is c.split_once.result c.split_once.ensures.cases in
    let both = rw c.in-Some.is at parts in
    c.in-Err-parse_number.ensures.bad is.last (subst (λ (w : Word). IsNumber 0 18446744073709551615 w is.last) (sym both.1) is.ended)

pub returns-in-Err-clause-bad : goal.returns-in-Err-clause-bad
returns-in-Err-clause-bad c = λ span is.
    let parts = parts_of_span c.args.word.now span is c.split_once.result c.split_once.ensures.cases in
    let both = rw c.in-Some.is at parts in
    c.in-Err.ensures.bad span.start (subst (λ (w : Word). IsNumber 0 18446744073709551615 w span.start) (sym both.0) is.started)
