use Rattle.file_check.proofs.Compressions.{compressions_exclude_validity}
use Rattle.file_check.proofs.laws.compressions_exclude_validity.Goals as goal

pub returns : goal.returns
returns c = compressions_exclude_validity
