use Rattle.mcap_wire.proofs.Framing.{texts_apart}
use Rattle.mcap_wire.proofs.laws.texts_are_apart.Goals as goal

pub returns : goal.returns
returns c = texts_apart
