use Rattle.mcap_laws.proofs.Validity.{files_are_indexed}
use Rattle.mcap_laws.proofs.files_are_indexed.Goals as goal

pub returns : goal.returns
returns c = files_are_indexed
