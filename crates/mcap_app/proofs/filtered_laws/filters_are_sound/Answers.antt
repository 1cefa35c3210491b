use Rattle.mcap_app.proofs.Filterings.{filters_are_sound}
use Rattle.mcap_app.proofs.filtered_laws.filters_are_sound.Goals as goal

pub returns : goal.returns
returns c = filters_are_sound c.filtered_histories_stand.ensures
