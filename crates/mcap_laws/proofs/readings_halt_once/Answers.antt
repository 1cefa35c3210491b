use Rattle.mcap_model.proofs.Halting.{readings_halt_once}
use Rattle.mcap_laws.proofs.readings_halt_once.Goals as goal

pub returns : goal.returns
returns c = readings_halt_once
