use Rattle.std.proofs.Common.{arith}
use Rattle.std.proofs.lemmas.Grind.{common_steps}
use Rattle.mcap_model.proofs.replaying.choose.Goals as goal

pub messages-preserved : goal.messages-preserved
messages-preserved c = grind (arith, common_steps)
