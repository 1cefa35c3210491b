use Rattle.mcap_app.proofs.FilteredMessages.{filtered_are_asked}
use Rattle.mcap_app.proofs.filtered_laws.filtered_are_asked.Goals as goal

pub returns : goal.returns
returns c = filtered_are_asked c.filtered_histories_stand.ensures c.picked_are_asked.ensures c.messages_are_those_picked.ensures c.repairs_keep_messages.ensures
