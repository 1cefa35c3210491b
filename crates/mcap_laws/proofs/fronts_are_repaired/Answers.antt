use Rattle.mcap_laws.proofs.CutFiles.{fronts_are_repaired}
use Rattle.mcap_laws.proofs.fronts_are_repaired.Goals as goal

pub returns : goal.returns
returns c = fronts_are_repaired
