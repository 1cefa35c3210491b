use Rattle.mcap_model.proofs.Readings.{halts_are_last}
use Rattle.mcap_laws.proofs.halts_are_last.Goals as goal

pub returns : goal.returns
returns c = halts_are_last
