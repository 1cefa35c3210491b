use Rattle.mcap_model.proofs.Readings.{kept_once}
use Rattle.mcap_laws.proofs.kept_is_one.Goals as goal

pub returns : goal.returns
returns c = kept_once
