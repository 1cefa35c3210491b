use Rattle.mcap_laws.proofs.Validity.{files_are_valid}
use Rattle.mcap_laws.proofs.files_are_valid.Goals as goal

pub returns : goal.returns
returns c = files_are_valid
