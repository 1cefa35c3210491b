use Rattle.std.proofs.Common.{◌≡◌, map, take}
use Rattle.mcap_model.proofs.topics.channels_of.Given as goal

abbrev pub invariant-messages : goal.invariant-messages
invariant-messages l = l.ids.items ≡ map (λ s. s.channel) (take l.i l.shown)
