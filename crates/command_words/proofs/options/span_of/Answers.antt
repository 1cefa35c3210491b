-- The times are those of the value that was found.
use Rattle.std.proofs.Common.{codes}
use Rattle.command_words.specs.Matches.{value_in}
use Rattle.command_words.proofs.OptionLemmas.{no_given_span}
use Rattle.command_words.proofs.options.span_of.Goals as goal

pub returns-in-Err-clause-bad : goal.returns-in-Err-clause-bad
returns-in-Err-clause-bad c = λ span. no_given_span c.in-Some.word.now (value_in c.args.found.now (codes "watch")) span c.in-Some.ensures c.in-Err.ensures.bad
