use Rattle.mcap_model.proofs.WholeFiles.{whole_files_are_one}
use Rattle.mcap_laws.proofs.whole_files_are_one.Goals as goal

pub returns : goal.returns
returns c = whole_files_are_one
