use Rattle.rec_data.proofs.Contents.{message_on}
use Rattle.rec_data.proofs.laws.messages_change_channel.Goals as goal

pub returns : goal.returns
returns c = message_on
