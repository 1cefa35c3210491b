-- The range and the topic are those that were found.
use Rattle.std.proofs.Common.{◌≢◌, Some, codes, rules, ◌∙◌}
use Rattle.clap.specs.Words.{first_of}
use Rattle.command_words.specs.Matches.{rows_found}
use Rattle.command_words.proofs.selecting.selection_of.Goals as goal

pub returns-then-is_dash-clause-bad : goal.returns-then-is_dash-clause-bad
returns-then-is_dash-clause-bad c = λ v items places selects shows why range is clean. clean (search rules)

pub returns-in-Err-clause-bad : goal.returns-in-Err-clause-bad
returns-in-Err-clause-bad c = λ v items places selects shows why range is clean. c.in-Err.ensures.bad v items places selects shows range is

pub returns-in-Ok-maybe_copy-clause-selected : goal.returns-in-Ok-maybe_copy-clause-selected
returns-in-Ok-maybe_copy-clause-selected c = λ v items places selects shows.
    let clean : first_of (codes "topic") (rows_found c.args.found.now) ≢ Some (codes "-") = λ dash. search rules in
    (c.in-Ok.ensures.range v items places selects shows, c.in-Ok-maybe_copy.ensures.copy ∙ c.value_of.ensures, clean)
