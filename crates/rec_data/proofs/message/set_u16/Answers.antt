use Rattle.rec_data.proofs.Setting.{number_set}
use Rattle.rec_data.proofs.message.set_u16.Goals as goal

pub returns-clause-front : goal.returns-clause-front
returns-clause-front c = number_set c.args.bytes.now _ _ _ c.args.at 2 c.args.value c.requires c.write_u16.ensures
