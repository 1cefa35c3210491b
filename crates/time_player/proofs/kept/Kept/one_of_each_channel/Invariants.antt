use Rattle.std.proofs.Common.{map, take}
use Rattle.time_player.specs.Heads.{shown_in, Represents}
use Rattle.time_player.proofs.kept.Kept.one_of_each_channel.Given as goal

abbrev pub invariant-messages : goal.invariant-messages
invariant-messages l = Represents (map (shown_in l.self.payloads.items) (take l.i l.self.heads.items)) l.known l.few.items
