use Rattle.mcap_model.proofs.Repairs.{repairs_go_on}
use Rattle.mcap_laws.proofs.repairs_go_on.Goals as goal

pub returns : goal.returns
returns c = repairs_go_on
