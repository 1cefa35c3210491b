use Rattle.mcap_app.proofs.Filterings.{filters_are_printed}
use Rattle.mcap_app.proofs.filtered_laws.filters_are_printed.Goals as goal

pub returns : goal.returns
returns c = filters_are_printed c.filtered_histories_stand.ensures
