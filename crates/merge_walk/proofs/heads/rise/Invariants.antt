use Rattle.std.specs.List.{AllAdjacentBelow}
use Rattle.merge_walk.specs.Heads.{HeadBefore}
use Rattle.merge_walk.proofs.heads.rise.Given as goal

abbrev pub invariant-messages : goal.invariant-messages
invariant-messages l = AllAdjacentBelow HeadBefore l.heads l.i
