use Rattle.mcap_wire.proofs.Contents.{rows_back}
use Rattle.rec_index.specs.Records.{statistics_kinds}
use Rattle.rec_index.proofs.laws.statistics_read_back.Goals as goal

pub returns : goal.returns
returns c = rows_back statistics_kinds
