use Rattle.std.proofs.Common.{◌≡◌, take}
use Rattle.time_player.specs.Keeping.{kept_in}
use Rattle.time_player.proofs.kept.Kept.copies.Given as goal

abbrev pub invariant-messages : goal.invariant-messages
invariant-messages l = l.shown.items ≡ take l.i (kept_in l.self)
