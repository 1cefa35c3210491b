use Rattle.mcap_wire.proofs.Contents.{rows_back}
use Rattle.rec_index.specs.Records.{chunk_kinds}
use Rattle.rec_index.proofs.laws.chunks_read_back.Goals as goal

pub returns : goal.returns
returns c = rows_back chunk_kinds
