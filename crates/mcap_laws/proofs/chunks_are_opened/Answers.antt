use Rattle.mcap_model.proofs.Unpacking.{chunks_are_opened}
use Rattle.mcap_laws.proofs.chunks_are_opened.Goals as goal

pub returns : goal.returns
returns c = chunks_are_opened
