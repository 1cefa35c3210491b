use Rattle.mcap_laws.proofs.Indexing.{extras_are_indexed}
use Rattle.mcap_laws.proofs.extras_are_indexed.Goals as goal

pub returns : goal.returns
returns c = extras_are_indexed
