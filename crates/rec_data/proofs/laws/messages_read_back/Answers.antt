use Rattle.rec_data.proofs.Contents.{message_shown, message_decided}
use Rattle.rec_data.proofs.laws.messages_read_back.Goals as goal

pub returns : goal.returns
returns c = record { shown = message_shown; decided = message_decided }
