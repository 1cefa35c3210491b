use Rattle.mcap_app.proofs.Succeeding.{indexed_printings_succeed}
use Rattle.mcap_app.proofs.laws.indexed_printings_succeed.Goals as goal

pub returns : goal.returns
returns c = indexed_printings_succeed
