use Rattle.std.proofs.Common.{◌<◌, ◌≤◌, length}
use Rattle.merge_walk.proofs.Ordered.{FirstSoFar}
use Rattle.merge_walk.proofs.cursors.first_due.Given as goal

abbrev pub invariant-pieces : goal.invariant-pieces
invariant-pieces l = (l.first < l.i) × (l.i ≤ length l.cursors) × FirstSoFar l.cursors l.first l.i
