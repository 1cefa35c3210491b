use Rattle.mcap_app.proofs.FilteredReplays.{filtered_replays_are_one}
use Rattle.mcap_app.proofs.filtered_laws.filtered_replays_are_one.Goals as goal

pub returns : goal.returns
returns c = filtered_replays_are_one c.filtered_are_asked.ensures
