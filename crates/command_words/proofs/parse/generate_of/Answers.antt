-- The generation is the one whose words were found.
use Rattle.std.proofs.Common.{refl, sym, ◌∙◌}
use Rattle.command_words.specs.Matches.{rows_found}
use Rattle.command_words.proofs.CommandLemmas.{generate_amounts, generate_is, generate_long, generate_named, generate_places, no_words_found}
use Rattle.command_words.proofs.parse.generate_of.Goals as goal
use Rattle.command_words.proofs.parse.generate_of.Goals.{then-rest-ne3-via-then-rest-ne3, then-rest-ne3-via-else-rest-ne3+then-is_empty}

pub returns-in-Err-clause-bad : goal.returns-in-Err-clause-bad
returns-in-Err-clause-bad c = λ words reading why generation is.
    c.in-Err.ensures.bad is.seed_word generation.seed (generate_places words (rows_found c.args.found.now) reading generation is).0 is.seeded

pub returns-in_default-clause-bad : goal.returns-in_default-clause-bad
returns-in_default-clause-bad c = λ words reading why generation is.
    no_words_found _ _ _ _ (sym c.in_default.ensures ∙ (generate_places words (rows_found c.args.found.now) reading generation is).1)

pub returns-then-rest-ne3-clause-bad : goal.returns-then-rest-ne3-clause-bad
returns-then-rest-ne3-clause-bad c = λ words reading why generation is. elim c.then-rest-ne3.branch [
  | then-rest-ne3-via-then-rest-ne3 w ↦ w.if-rest-ne3.true (generate_long words (rows_found c.args.found.now) reading generation is c.in-Some.rest.now c.in-Some.ensures)
  | then-rest-ne3-via-else-rest-ne3+then-is_empty w ↦
      generate_named words (rows_found c.args.found.now) reading generation is c.in-Some.rest.now c.in-Some.ensures _ (sym w.is_empty.ensures ∙ w.if-is_empty.true)
]

pub returns-in-Err-amounts_of-clause-bad : goal.returns-in-Err-amounts_of-clause-bad
returns-in-Err-amounts_of-clause-bad c = λ words reading why generation is.
    c.in-Err-amounts_of.ensures.bad generation.feeds generation.messages (generate_amounts words (rows_found c.args.found.now) reading generation is c.in-Some.rest.now c.in-Some.ensures _)

pub returns-in-Ok-copy_of-clause-command : goal.returns-in-Ok-copy_of-clause-command
returns-in-Ok-copy_of-clause-command c = λ words reading.
    let (seed_word, first, seeded) = c.in-Ok.ensures.number in
    let is = generate_is words (rows_found c.args.found.now) reading seed_word c.in-Ok.seed c.in-Ok-amounts_of.amounts.feeds c.in-Ok-amounts_of.amounts.messages c.in-Some.rest.now _ first c.in-Some.ensures c.if-rest-ne3.false seeded c.in-Ok-amounts_of.ensures.amounts
    (sym c.is_empty.ensures ∙ c.if-is_empty.false) in
    (rw (c.in-Ok-copy_of.ensures.copy) is, refl)
