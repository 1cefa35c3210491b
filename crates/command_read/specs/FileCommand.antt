-- What each command of one file without options does.
use Rattle.std.specs.Prelude.{ℕ, List}
use Rattle.command_base.specs.declared.statuses.Status.{Status}
use Rattle.command_base.specs.Ran.{Scene}
use Rattle.command_words.specs.declared.command.FileCommand.{FileCommand}
use Rattle.command_words.specs.declared.command.FileCommand.TheVariants.{Info, Check}
use Rattle.command_read.specs.Info.{Describes}
use Rattle.command_read.specs.Check.{FileChecks}

abbrev pub RunsOnFile : FileCommand → List ℕ → Scene → Scene → Status → Type 0
RunsOnFile Info file old new status = Describes file old new status
RunsOnFile Check file old new status = FileChecks file old new status
