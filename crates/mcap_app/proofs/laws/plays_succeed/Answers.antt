use Rattle.mcap_app.proofs.SucceedingPlays.{plays_succeed}
use Rattle.mcap_app.proofs.laws.plays_succeed.Goals as goal

pub returns : goal.returns
returns c = plays_succeed c.scripts_have_no_bad_line.ensures
