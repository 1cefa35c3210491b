-- The recovery is the one whose names and size were found.
use Rattle.std.proofs.Common.{refl}
use Rattle.command_words.specs.Matches.{rows_found}
use Rattle.command_words.proofs.CommandLemmas.{recover_found, recover_is}
use Rattle.command_words.proofs.parse.recover_of.Goals as goal

pub returns-in-Ok-clause-command : goal.returns-in-Ok-clause-command
returns-in-Ok-clause-command c = λ words reading.
    (recover_is words (rows_found c.args.found.now) c.in-Ok.field-0.input c.in-Ok.field-0.out c.in-Ok.field-0.chunk reading c.in-Ok.ensures.found, refl)

pub returns-in-Err-clause-bad : goal.returns-in-Err-clause-bad
returns-in-Err-clause-bad c = λ words reading why recovery is.
    c.in-Err.ensures.bad why recovery.input recovery.out recovery.chunk (recover_found words (rows_found c.args.found.now) recovery.input recovery.out recovery.chunk reading is)
