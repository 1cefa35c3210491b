use Rattle.mcap_model.proofs.Unpacking.{records_are_found}
use Rattle.mcap_laws.proofs.records_are_found.Goals as goal

pub returns : goal.returns
returns c = records_are_found
