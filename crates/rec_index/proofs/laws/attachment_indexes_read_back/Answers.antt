use Rattle.mcap_wire.proofs.Contents.{rows_back}
use Rattle.rec_index.specs.Records.{attachment_index_kinds}
use Rattle.rec_index.proofs.laws.attachment_indexes_read_back.Goals as goal

pub returns : goal.returns
returns c = rows_back attachment_index_kinds
