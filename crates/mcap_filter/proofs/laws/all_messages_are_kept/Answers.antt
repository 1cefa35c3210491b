use Rattle.mcap_filter.proofs.Written.{all_are_kept}
use Rattle.mcap_filter.proofs.laws.all_messages_are_kept.Goals as goal

pub returns : goal.returns
returns c = all_are_kept
