-- The sorting is the one whose names and size were found.
use Rattle.std.proofs.Common.{refl}
use Rattle.command_words.specs.Matches.{rows_found}
use Rattle.command_words.proofs.CommandLemmas.{sort_found, sort_is}
use Rattle.command_words.proofs.parse.sort_of.Goals as goal

pub returns-in-Ok-clause-command : goal.returns-in-Ok-clause-command
returns-in-Ok-clause-command c = λ words reading.
    (sort_is words (rows_found c.args.found.now) c.in-Ok.field-0.input c.in-Ok.field-0.out c.in-Ok.field-0.chunk reading c.in-Ok.ensures.found, refl)

pub returns-in-Err-clause-bad : goal.returns-in-Err-clause-bad
returns-in-Err-clause-bad c = λ words reading why sorting is.
    c.in-Err.ensures.bad why sorting.input sorting.out sorting.chunk (sort_found words (rows_found c.args.found.now) sorting.input sorting.out sorting.chunk reading is)
