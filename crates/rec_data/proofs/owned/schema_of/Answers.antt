use Rattle.rec_data.proofs.OwnedReading.{schema_refused}
use Rattle.rec_data.proofs.owned.schema_of.Goals as goal

pub returns-in-Err : goal.returns-in-Err
returns-in-Err c = schema_refused c.args.content.now c.in-Err.ensures.none
