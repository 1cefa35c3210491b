use Rattle.mcap_laws.proofs.CutFiles.{parts_are_repaired}
use Rattle.mcap_laws.proofs.parts_are_repaired.Goals as goal

pub returns : goal.returns
returns c = parts_are_repaired
