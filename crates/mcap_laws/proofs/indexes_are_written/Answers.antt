use Rattle.mcap_model.proofs.Logging.{indexes_are_written}
use Rattle.mcap_laws.proofs.indexes_are_written.Goals as goal

pub returns : goal.returns
returns c = indexes_are_written
