use Rattle.mcap_app.proofs.Succeeding.{recordings_succeed}
use Rattle.mcap_app.proofs.laws.recordings_succeed.Goals as goal

pub returns : goal.returns
returns c = recordings_succeed
