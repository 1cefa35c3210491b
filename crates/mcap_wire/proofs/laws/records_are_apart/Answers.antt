use Rattle.mcap_wire.proofs.Framing.{records_apart}
use Rattle.mcap_wire.proofs.laws.records_are_apart.Goals as goal

pub returns : goal.returns
returns c = records_apart
