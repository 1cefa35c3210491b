-- The playing is the one whose names and options were found.
use Rattle.std.proofs.Common.{◌≡◌, refl, subst, sym, Some}
use Rattle.command_words.specs.Commands.{synopsis_of}
use Rattle.command_words.specs.Matches.{rows_found}
use Rattle.command_words.specs.declared.verbs.Verb.TheVariants as verb
use Rattle.command_words.proofs.CommandLemmas.{places_in, play_clean, play_is, play_names, play_range, play_selects}
use Rattle.command_words.proofs.parse.play_of.Goals as goal

pub returns-in_default-clause-bad : goal.returns-in_default-clause-bad
returns-in_default-clause-bad c = λ words reading why playing is.
    c.in_default.ensures playing.script is.script_named (play_names words (rows_found c.args.found.now) reading playing is).1

pub returns-in-Err-clause-bad : goal.returns-in-Err-clause-bad
returns-in-Err-clause-bad c = λ words reading why playing is.
    let rows = rows_found c.args.found.now in
    c.in-Err.ensures.bad (synopsis_of verb.Play) reading.items (places_in reading) play_selects reading.shows why playing.range (play_range words rows reading playing is) (play_clean words rows reading playing is)

pub returns-in-Err-one_name-clause-bad : goal.returns-in-Err-one_name-clause-bad
returns-in-Err-one_name-clause-bad c = λ words reading why playing is.
    c.in-Err-one_name.ensures.bad why playing.file is.file_named (play_names words (rows_found c.args.found.now) reading playing is).0

pub returns-in-Ok-copy_of-clause-command : goal.returns-in-Ok-copy_of-clause-command
returns-in-Ok-copy_of-clause-command c = λ words reading.
    let rows = rows_found c.args.found.now in
    let selected = c.in-Ok.ensures.selected (synopsis_of verb.Play) reading.items (places_in reading) play_selects reading.shows in
    let is = play_is words rows reading (record { file = c.in-Ok-one_name.file; script = c.in-Some.script.now; range = c.in-Ok.selected.range; topic = c.in-Ok.selected.topic })
    c.in-Ok-one_name.ensures.file.1 c.in-Some.ensures.1 c.in-Ok-one_name.ensures.file.0 c.in-Some.ensures.0 selected.0 selected.1 selected.2 in
    (rw c.in-Ok-copy_of.ensures.copy is, refl)
