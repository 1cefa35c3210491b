use Rattle.mcap_filter.proofs.HistoriesStand.{filtered_histories_stand}
use Rattle.mcap_filter.proofs.history_laws.filtered_histories_stand.Goals as goal

pub returns : goal.returns
returns c = filtered_histories_stand
