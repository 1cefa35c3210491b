use Rattle.mcap_laws.proofs.Repairing.{files_are_repaired}
use Rattle.mcap_laws.proofs.files_are_repaired.Goals as goal

pub returns : goal.returns
returns c = files_are_repaired
