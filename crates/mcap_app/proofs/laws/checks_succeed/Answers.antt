use Rattle.mcap_app.proofs.Succeeding.{checks_succeed}
use Rattle.mcap_app.proofs.laws.checks_succeed.Goals as goal

pub returns : goal.returns
returns c = checks_succeed
