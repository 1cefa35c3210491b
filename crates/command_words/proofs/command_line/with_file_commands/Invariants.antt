-- The commands so far are added.
use Rattle.std.proofs.Common.{IfOk, fold, take}
use Rattle.clap.specs.Words.{App}
use Rattle.command_words.specs.CommandLine.{IsMade, with_command}
use Rattle.command_words.proofs.command_line.with_file_commands.Given as goal

abbrev pub invariant-commands : goal.invariant-commands
invariant-commands l = (app : App) → IfOk l.fn.made (IsMade app) → IfOk l.made (IsMade (fold with_command app (take l.what-index l.what-items)))
