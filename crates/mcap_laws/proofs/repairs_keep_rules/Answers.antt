use Rattle.mcap_laws.proofs.Rewriting.{repairs_keep_rules}
use Rattle.mcap_laws.proofs.repairs_keep_rules.Goals as goal

pub returns : goal.returns
returns c = repairs_keep_rules
