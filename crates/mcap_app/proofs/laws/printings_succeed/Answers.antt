use Rattle.mcap_app.proofs.Succeeding.{printings_succeed}
use Rattle.mcap_app.proofs.laws.printings_succeed.Goals as goal

pub returns : goal.returns
returns c = printings_succeed
