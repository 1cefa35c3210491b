use Rattle.rec_data.proofs.OwnedReading.{channel_refused}
use Rattle.rec_data.proofs.owned.channel_of.Goals as goal

pub returns-in-Err : goal.returns-in-Err
returns-in-Err c = channel_refused c.args.content.now c.in-Err.ensures.none
