use Rattle.mcap_app.proofs.FirstParts.{recordings_are_recovered}
use Rattle.mcap_app.proofs.laws.recordings_are_recovered.Goals as goal

pub returns : goal.returns
returns c = recordings_are_recovered c.parts_are_repaired.ensures
