use Rattle.mcap_app.proofs.Sound.{recordings_are_sound}
use Rattle.mcap_app.proofs.laws.recordings_are_sound.Goals as goal

pub returns : goal.returns
returns c = recordings_are_sound
