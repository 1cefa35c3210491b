use Rattle.mcap_laws.proofs.Repairing.{repairs_keep_messages}
use Rattle.mcap_laws.proofs.repairs_keep_messages.Goals as goal

pub returns : goal.returns
returns c = repairs_keep_messages
