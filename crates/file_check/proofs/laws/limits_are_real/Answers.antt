use Rattle.file_check.proofs.RealLimits.{limits_are_real}
use Rattle.file_check.proofs.laws.limits_are_real.Goals as goal

pub returns : goal.returns
returns c = limits_are_real
