use Rattle.std.proofs.Common.{ℕ, ◌<◌, ◌≤◌}
use Rattle.mcap_model.specs.declared.replay.Shown.{Shown}
use Rattle.mcap_model.specs.Places.{At}
use Rattle.time_player.specs.Lines.{spelling, line_room}
use Rattle.time_player.specs.Messages.{messages_in}
use Rattle.time_player.proofs.printer.longest_line.Given as goal

abbrev pub invariant-messages : goal.invariant-messages
invariant-messages l = (n : ℕ) (s : Shown) → n < l.i → At (messages_in l.messages) n s → line_room s (spelling l.quoted s.channel) ≤ l.longest
