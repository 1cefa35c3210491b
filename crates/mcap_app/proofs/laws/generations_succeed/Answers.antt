use Rattle.mcap_app.proofs.SucceedingGenerations.{generations_succeed}
use Rattle.mcap_app.proofs.laws.generations_succeed.Goals as goal

pub returns : goal.returns
returns c = generations_succeed
