use Rattle.mcap_wire.proofs.Contents.{rows_back}
use Rattle.rec_index.specs.Records.{message_index_kinds}
use Rattle.rec_index.proofs.laws.message_index_read_back.Goals as goal

pub returns : goal.returns
returns c = rows_back message_index_kinds
