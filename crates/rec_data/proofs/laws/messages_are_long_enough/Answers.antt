use Rattle.rec_data.proofs.Contents.{message_is_long}
use Rattle.rec_data.proofs.laws.messages_are_long_enough.Goals as goal

pub returns : goal.returns
returns c = message_is_long
