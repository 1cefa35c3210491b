use Rattle.mcap_model.proofs.WrittenChunks.{chunks_are_written}
use Rattle.mcap_laws.proofs.chunks_are_written.Goals as goal

pub returns : goal.returns
returns c = chunks_are_written
