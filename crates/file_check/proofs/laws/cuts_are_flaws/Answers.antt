use Rattle.file_check.proofs.CutFlaws.{cuts_are_flaws}
use Rattle.file_check.proofs.laws.cuts_are_flaws.Goals as goal

pub returns : goal.returns
returns c = cuts_are_flaws
