use Rattle.mcap_app.proofs.Succeeding.{merges_succeed}
use Rattle.mcap_app.proofs.laws.merges_succeed.Goals as goal

pub returns : goal.returns
returns c = merges_succeed
