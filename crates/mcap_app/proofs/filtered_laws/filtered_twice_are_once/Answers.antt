use Rattle.mcap_app.proofs.FilteredMessages.{filtered_twice_are_once}
use Rattle.mcap_app.proofs.filtered_laws.filtered_twice_are_once.Goals as goal

pub returns : goal.returns
returns c = filtered_twice_are_once c.filtered_histories_stand.ensures c.filtered_twice_is_once.ensures c.files_are_repaired.ensures
