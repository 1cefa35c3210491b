use Rattle.mcap_wire.proofs.Contents.{rows_back}
use Rattle.rec_index.specs.Records.{metadata_index_kinds}
use Rattle.rec_index.proofs.laws.metadata_indexes_read_back.Goals as goal

pub returns : goal.returns
returns c = rows_back metadata_index_kinds
