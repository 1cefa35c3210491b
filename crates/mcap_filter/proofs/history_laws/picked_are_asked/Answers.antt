use Rattle.mcap_filter.proofs.PicksOfScan.{picked_are_asked}
use Rattle.mcap_filter.proofs.history_laws.picked_are_asked.Goals as goal

pub returns : goal.returns
returns c = picked_are_asked
