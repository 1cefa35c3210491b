use Rattle.mcap_filter.proofs.Twice.{filtered_twice_is_once}
use Rattle.mcap_filter.proofs.history_laws.filtered_twice_is_once.Goals as goal

pub returns : goal.returns
returns c = filtered_twice_is_once
