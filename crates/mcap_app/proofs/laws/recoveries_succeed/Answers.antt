use Rattle.mcap_app.proofs.Succeeding.{recoveries_succeed}
use Rattle.mcap_app.proofs.laws.recoveries_succeed.Goals as goal

pub returns : goal.returns
returns c = recoveries_succeed
