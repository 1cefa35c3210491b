use Rattle.mcap_laws.proofs.Repeats.{repeats_may_go}
use Rattle.mcap_laws.proofs.repeats_may_go.Goals as goal

pub returns : goal.returns
returns c = repeats_may_go
