use Rattle.std.proofs.Common.{ap, ◌∙◌}
use Rattle.std.specs.Prelude.{filter}
use Rattle.mcap_model.specs.History.{is_message}
use Rattle.mcap_sort.proofs.Kept.{messages_seen}
use Rattle.mcap_sort.proofs.laws.messages_are_replayed.Goals as goal

pub returns : goal.returns
returns c = λ tops extras profile written s. ap (filter is_message) s.written_is ∙ messages_seen s.history s.shown
