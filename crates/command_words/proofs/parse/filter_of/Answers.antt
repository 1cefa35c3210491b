-- The filtering is the one whose names and options were found.
use Rattle.std.proofs.Common.{refl}
use Rattle.command_words.specs.Commands.{synopsis_of}
use Rattle.command_words.specs.Matches.{rows_found}
use Rattle.command_words.specs.declared.verbs.Verb.TheVariants as verb
use Rattle.command_words.proofs.CommandLemmas.{filter_clean, filter_found, filter_is, filter_range, filter_selects, places_in}
use Rattle.command_words.proofs.parse.filter_of.Goals as goal

pub returns-in-Err-clause-bad : goal.returns-in-Err-clause-bad
returns-in-Err-clause-bad c = λ words reading why filtering is.
    let rows = rows_found c.args.found.now in
    c.in-Err.ensures.bad (synopsis_of verb.Filter) reading.items (places_in reading) filter_selects reading.shows why filtering.range (filter_range words rows reading filtering is) (filter_clean words rows reading filtering is)

pub returns-in-Err-rewriting_of-clause-bad : goal.returns-in-Err-rewriting_of-clause-bad
returns-in-Err-rewriting_of-clause-bad c = λ words reading why filtering is.
    c.in-Err-rewriting_of.ensures.bad why filtering.input filtering.out filtering.chunk (filter_found words (rows_found c.args.found.now) reading filtering is)

pub returns-in-Ok-rewriting_of-clause-command : goal.returns-in-Ok-rewriting_of-clause-command
returns-in-Ok-rewriting_of-clause-command c = λ words reading.
    let rows = rows_found c.args.found.now in
    let selected = c.in-Ok.ensures.selected (synopsis_of verb.Filter) reading.items (places_in reading) filter_selects reading.shows in
    let r = c.in-Ok-rewriting_of.field-0 in
    (filter_is words rows reading (record { input = r.input; out = r.out; range = c.in-Ok.selected.range; topic = c.in-Ok.selected.topic; chunk = r.chunk }) c.in-Ok-rewriting_of.ensures.found selected.0 selected.1 selected.2, refl)
