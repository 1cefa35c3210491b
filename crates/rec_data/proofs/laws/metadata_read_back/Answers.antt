use Rattle.mcap_wire.proofs.Contents.{rows_back}
use Rattle.rec_data.specs.Records.{metadata_kinds}
use Rattle.rec_data.proofs.laws.metadata_read_back.Goals as goal

pub returns : goal.returns
returns c = rows_back metadata_kinds
