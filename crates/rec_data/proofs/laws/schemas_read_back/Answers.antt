use Rattle.mcap_wire.proofs.Contents.{rows_back}
use Rattle.rec_data.specs.Records.{schema_kinds}
use Rattle.rec_data.proofs.laws.schemas_read_back.Goals as goal

pub returns : goal.returns
returns c = rows_back schema_kinds
