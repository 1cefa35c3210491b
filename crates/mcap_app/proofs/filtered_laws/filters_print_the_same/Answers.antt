use Rattle.mcap_app.proofs.FilteredPrintings.{filters_print_the_same}
use Rattle.mcap_app.proofs.filtered_laws.filters_print_the_same.Goals as goal

pub returns : goal.returns
returns c = filters_print_the_same c.filtered_histories_stand.ensures c.filtered_replays_are_one.ensures
