use Rattle.mcap_app.proofs.Merges.{merges_are_sound}
use Rattle.mcap_app.proofs.laws.merges_are_sound.Goals as goal

pub returns : goal.returns
returns c = merges_are_sound
