-- The command is added.
use Rattle.std.proofs.lemmas.Result.{IfOk-at_ok, IfOk-weaker}
use Rattle.command_words.specs.CommandLine.{IsMade}
use Rattle.command_words.proofs.LineLemmas.{made_sub}
use Rattle.command_words.proofs.command_line.with_made.Goals as goal

pub returns-in-Ok : goal.returns-in-Ok
returns-in-Ok c = λ app below made is.
    IfOk-weaker c.subcommand.result _ _ (λ more adding. made_sub app below c.in-Ok.made c.args.verb more (IfOk-at_ok (IsMade app) c.in-Ok.is made) is adding) c.subcommand.ensures
