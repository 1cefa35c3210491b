use Rattle.mcap_laws.proofs.Recovered.{repairs_are_one}
use Rattle.mcap_laws.proofs.repairs_are_one.Goals as goal

pub returns : goal.returns
returns c = repairs_are_one
