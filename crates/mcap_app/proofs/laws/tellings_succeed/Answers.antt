use Rattle.mcap_app.proofs.Succeeding.{tellings_succeed}
use Rattle.mcap_app.proofs.laws.tellings_succeed.Goals as goal

pub returns : goal.returns
returns c = tellings_succeed
