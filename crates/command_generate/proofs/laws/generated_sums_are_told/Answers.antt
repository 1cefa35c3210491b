use Rattle.command_generate.proofs.SumsTold.{generated_sums_are_told}
use Rattle.command_generate.proofs.laws.generated_sums_are_told.Goals as goal

pub returns : goal.returns
returns c = generated_sums_are_told c.generated_feeds_are_read.ensures
