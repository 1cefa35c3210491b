use Rattle.std.proofs.Common.{take}
use Rattle.std.specs.List.{AllZip}
use Rattle.mcap_model.specs.Plain.{DeclareChannels, AreDeclared}
use Rattle.mcap_model.proofs.NamedTopics.{IsEntry}
use Rattle.mcap_model.proofs.topics.topics_of.Given as goal

abbrev pub invariant-ids : goal.invariant-ids
invariant-ids l = DeclareChannels l.tables.channels → AreDeclared l.tables.channels l.shown → AllZip (IsEntry l.tables.channels) (take l.i l.ids.items) l.topics.items
