use Rattle.summary_read.proofs.Flawed.{flawed}
use Rattle.summary_read.proofs.laws.ends_are_flaws.Goals as goal

pub returns : goal.returns
returns c = flawed
