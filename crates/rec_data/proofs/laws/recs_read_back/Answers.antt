use Rattle.rec_data.proofs.OwnedReading.{rec_framed, framed_decided}
use Rattle.rec_data.proofs.laws.recs_read_back.Goals as goal

pub returns : goal.returns
returns c = record { shown = rec_framed; decided = framed_decided }
