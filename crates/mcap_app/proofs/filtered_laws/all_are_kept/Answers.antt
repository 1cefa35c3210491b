use Rattle.mcap_app.proofs.FilteredMessages.{all_are_kept}
use Rattle.mcap_app.proofs.filtered_laws.all_are_kept.Goals as goal

pub returns : goal.returns
returns c = all_are_kept c.filtered_are_asked.ensures
