use Rattle.std.proofs.Common.{arith}
use Rattle.std.proofs.lemmas.Grind.{common_steps}
use Rattle.chunk_writer.proofs.plan.Plan.back.Goals as goal

pub returns-in-Ok-keep_limit-clause-ok : goal.returns-in-Ok-keep_limit-clause-ok
returns-in-Ok-keep_limit-clause-ok c = grind (arith, common_steps)

pub returns-in-Err-keep_limit-clause-err : goal.returns-in-Err-keep_limit-clause-err
returns-in-Err-keep_limit-clause-err c = grind (arith, common_steps)
