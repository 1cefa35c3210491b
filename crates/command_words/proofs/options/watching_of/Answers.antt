-- The watchers are those that were found for --watch and --watchers.
use Rattle.std.proofs.Common.{◌≡◌, ◌∙◌, false, rules, sym, true}
use Rattle.command_words.specs.Commands.{MayWatch}
use Rattle.command_words.specs.Matches.{rows_found}
use Rattle.command_words.proofs.OptionLemmas.{watching_given, watching_is, watching_may}
use Rattle.command_words.proofs.options.watching_of.Goals as goal

pub returns-in-Err-clause-bad : goal.returns-in-Err-clause-bad
returns-in-Err-clause-bad c = λ items places shows range count is. c.in-Err.ensures.bad is.span (watching_given (rows_found c.args.found.now) items places shows range count is).0

pub returns-in-Err-number_of-clause-bad : goal.returns-in-Err-number_of-clause-bad
returns-in-Err-number_of-clause-bad c = λ items places shows range count is. c.in-Err-number_of.ensures.bad is.number (watching_given (rows_found c.args.found.now) items places shows range count is).1

pub returns-then-not-may_watch-clause-bad : goal.returns-then-not-may_watch-clause-bad
returns-then-not-may_watch-clause-bad c = λ items places shows range count is.
    let may = watching_may (rows_found c.args.found.now) items places shows c.has_flag.result c.in-Ok.span c.in-Ok-number_of.number c.has_flag.ensures c.in-Ok.ensures.span c.in-Ok-number_of.ensures.number range count is in
    let wrong : false ≡ true = sym c.if-not-may_watch.true ∙ c.may_watch.ensures.1 may in cc

pub returns-clause-watchers : goal.returns-clause-watchers
returns-clause-watchers c = λ items places shows.
    let may : MayWatch c.has_flag.result c.in-Ok.span c.in-Ok-number_of.number = search rules in
    let is = watching_is (rows_found c.args.found.now) items places shows c.has_flag.result c.in-Ok.span c.in-Ok-number_of.number c.has_flag.ensures c.in-Ok.ensures.span c.in-Ok-number_of.ensures.number may in
    rw (c.unwrap_or.ensures, c.watchers_of.ensures) is
