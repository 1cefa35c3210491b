use Rattle.mcap_app.proofs.Recovered.{recoveries_are_sound}
use Rattle.mcap_app.proofs.laws.recoveries_are_sound.Goals as goal

pub returns : goal.returns
returns c = recoveries_are_sound c.repairs_can_be_written.ensures
