use Rattle.std.proofs.Common.{◌-◌}
use Rattle.index_check.proofs.Spotted.{Narrows}
use Rattle.index_check.proofs.spots.find.Given as goal

abbrev pub decreases-halves : goal.decreases-halves
decreases-halves l = l.high - l.low

abbrev pub invariant-halves : goal.invariant-halves
invariant-halves l = Narrows l.spots l.offset l.low l.high
