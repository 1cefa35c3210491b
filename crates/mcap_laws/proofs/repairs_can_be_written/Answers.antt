use Rattle.mcap_laws.proofs.Rewriting.{repairs_can_be_written}
use Rattle.mcap_laws.proofs.repairs_can_be_written.Goals as goal

pub returns : goal.returns
returns c = repairs_can_be_written
