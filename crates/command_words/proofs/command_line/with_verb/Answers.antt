-- The command is added, where there is one.
use Rattle.std.proofs.lemmas.Result.{IfOk-at_ok}
use Rattle.command_words.specs.CommandLine.{IsMade}
use Rattle.command_words.proofs.command_line.with_verb.Goals as goal

pub returns-in-Ok : goal.returns-in-Ok
returns-in-Ok c = λ app below made is. c.with_made.ensures app below made (IfOk-at_ok (IsMade below) c.in-Ok.is is)
