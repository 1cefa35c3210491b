use Rattle.mcap_app.proofs.Succeeding.{recording_limits_are_real}
use Rattle.mcap_app.proofs.laws.recording_limits_are_real.Goals as goal

pub returns : goal.returns
returns c = recording_limits_are_real
