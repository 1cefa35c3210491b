use Rattle.std.proofs.Common.{◌≡◌, take}
use Rattle.std.specs.Prelude.{filter}
use Rattle.mcap_model.specs.Plain.{is_chosen, asked_topic}
use Rattle.mcap_model.proofs.replaying.choose.Given as goal

abbrev pub invariant-messages : goal.invariant-messages
invariant-messages l = l.chosen.items ≡ filter (is_chosen l.all.topics.items l.range (asked_topic l.topic)) (take l.i l.all.shown.items)
