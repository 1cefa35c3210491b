use Rattle.mcap_wire.proofs.Contents.{rows_back}
use Rattle.mcap_wire.proofs.laws.rows_read_back.Goals as goal

pub returns : goal.returns
returns c = rows_back
