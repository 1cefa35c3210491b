use Rattle.file_check.proofs.Halted.{halts_are_flaws}
use Rattle.file_check.proofs.laws.halts_are_flaws.Goals as goal

pub returns : goal.returns
returns c = halts_are_flaws
