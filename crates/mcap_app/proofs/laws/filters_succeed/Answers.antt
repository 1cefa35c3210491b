use Rattle.mcap_app.proofs.SucceedingFilters.{filters_succeed}
use Rattle.mcap_app.proofs.laws.filters_succeed.Goals as goal

pub returns : goal.returns
returns c = filters_succeed
