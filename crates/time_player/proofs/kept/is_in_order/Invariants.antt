use Rattle.std.specs.List.{AllAdjacentBelow}
use Rattle.time_player.specs.Heads.{HeadNotBehind}
use Rattle.time_player.proofs.kept.is_in_order.Given as goal

abbrev pub invariant-messages : goal.invariant-messages
invariant-messages l = AllAdjacentBelow HeadNotBehind l.heads l.i
