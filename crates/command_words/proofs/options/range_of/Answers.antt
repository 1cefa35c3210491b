-- The range is what was found for --start and --end.
use Rattle.command_words.specs.Matches.{rows_found}
use Rattle.command_words.proofs.OptionLemmas.{range_given, range_is}
use Rattle.command_words.proofs.options.range_of.Goals as goal

pub returns-in-Ok-number_of-clause-range : goal.returns-in-Ok-number_of-clause-range
returns-in-Ok-number_of-clause-range c = λ v items places selects shows.
    range_is v selects (rows_found c.args.found.now) items places shows c.in-Ok.start (record { start = c.unwrap_or.result; end = c.in-Ok-number_of.end }) c.in-Ok.ensures.number c.unwrap_or.ensures c.in-Ok-number_of.ensures.number

pub returns-in-Err-number_of-clause-bad : goal.returns-in-Err-number_of-clause-bad
returns-in-Err-number_of-clause-bad c = λ v items places selects shows range is. c.in-Err-number_of.ensures.bad range.end (range_given v selects (rows_found c.args.found.now) items places shows range is).1

pub returns-in-Err-clause-bad : goal.returns-in-Err-clause-bad
returns-in-Err-clause-bad c = λ v items places selects shows range is. c.in-Err.ensures.bad is.start (range_given v selects (rows_found c.args.found.now) items places shows range is).0
