use Rattle.play_clock.proofs.BadLines.{scripts_have_no_bad_line}
use Rattle.play_clock.proofs.laws.scripts_have_no_bad_line.Goals as goal

pub returns : goal.returns
returns c = scripts_have_no_bad_line
