-- Each command is added behind those before it.
use Rattle.std.proofs.Common.{IfOk, subst, sym}
use Rattle.std.proofs.lemmas.List.Sums.{fold_more}
use Rattle.clap.specs.Words.{App}
use Rattle.command_words.specs.CommandLine.{IsMade, with_command}
use Rattle.command_words.specs.Commands.{file_commands}
use Rattle.command_words.proofs.command_line.with_file_commands.Goals as goal

pub commands-preserved : goal.commands-preserved
commands-preserved c = λ app made.
    subst (λ (x : App). IfOk c.with_verb-made.result (IsMade x)) (sym (fold_more with_command app file_commands c.commands.what-index _ c.commands-test.true))
    (c.with_verb-made.ensures _ _ (c.commands.invariant app made) c.of_file.ensures)
