use Rattle.play_clock.proofs.HaveValues.{lines_have_values}
use Rattle.play_clock.proofs.laws.lines_have_values.Goals as goal

pub returns : goal.returns
returns c = lines_have_values
