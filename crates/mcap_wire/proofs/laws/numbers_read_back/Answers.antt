use Rattle.mcap_wire.proofs.Framing.{numbers_back}
use Rattle.mcap_wire.proofs.laws.numbers_read_back.Goals as goal

pub returns : goal.returns
returns c = numbers_back
