use Rattle.mcap_model.proofs.Flat.{good_lists_are_scanned}
use Rattle.mcap_laws.proofs.good_lists_are_scanned.Goals as goal

pub returns : goal.returns
returns c = good_lists_are_scanned
