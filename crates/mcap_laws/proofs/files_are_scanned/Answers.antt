use Rattle.mcap_laws.proofs.Scanned.{files_are_scanned}
use Rattle.mcap_laws.proofs.files_are_scanned.Goals as goal

pub returns : goal.returns
returns c = files_are_scanned
