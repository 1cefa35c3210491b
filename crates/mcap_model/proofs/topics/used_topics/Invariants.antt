use Rattle.std.proofs.Common.{◌≡◌, take}
use Rattle.std.specs.Prelude.{filter}
use Rattle.mcap_model.specs.Plain.{is_used}
use Rattle.mcap_model.proofs.topics.used_topics.Given as goal

abbrev pub invariant-topics : goal.invariant-topics
invariant-topics l = l.used.items ≡ filter (λ t. is_used l.shown t.channel) (take l.i l.topics)
