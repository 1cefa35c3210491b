use Rattle.play_clock.proofs.GoingOn.{scripts_go_on}
use Rattle.play_clock.proofs.laws.scripts_go_on.Goals as goal

pub returns : goal.returns
returns c = scripts_go_on
