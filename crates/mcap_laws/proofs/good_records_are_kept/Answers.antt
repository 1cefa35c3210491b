use Rattle.mcap_model.proofs.Repairs.{good_records_are_kept}
use Rattle.mcap_laws.proofs.good_records_are_kept.Goals as goal

pub returns : goal.returns
returns c = good_records_are_kept
