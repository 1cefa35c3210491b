use Rattle.mcap_wire.proofs.Contents.{rows_back}
use Rattle.rec_index.specs.Records.{summary_offset_kinds}
use Rattle.rec_index.proofs.laws.summary_offsets_read_back.Goals as goal

pub returns : goal.returns
returns c = rows_back summary_offset_kinds
