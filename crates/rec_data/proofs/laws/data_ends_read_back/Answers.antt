use Rattle.mcap_wire.proofs.Contents.{rows_back}
use Rattle.rec_data.specs.Records.{data_end_kinds}
use Rattle.rec_data.proofs.laws.data_ends_read_back.Goals as goal

pub returns : goal.returns
returns c = rows_back data_end_kinds
