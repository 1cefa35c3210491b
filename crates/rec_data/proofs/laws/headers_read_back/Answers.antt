use Rattle.mcap_wire.proofs.Contents.{rows_back}
use Rattle.rec_data.specs.Records.{header_kinds}
use Rattle.rec_data.proofs.laws.headers_read_back.Goals as goal

pub returns : goal.returns
returns c = rows_back header_kinds
