use Rattle.rec_data.proofs.OwnedReading.{message_refused}
use Rattle.rec_data.proofs.owned.message_of.Goals as goal

pub returns-in-Err : goal.returns-in-Err
returns-in-Err c = message_refused c.args.content.now c.in-Err.ensures.none
