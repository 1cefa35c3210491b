use Rattle.std.proofs.Common.{arith}
use Rattle.std.proofs.lemmas.Grind.{common_steps}
use Rattle.mcap_model.proofs.topics.used_topics.Goals as goal

pub topics-preserved : goal.topics-preserved
topics-preserved c = grind (arith, common_steps)
