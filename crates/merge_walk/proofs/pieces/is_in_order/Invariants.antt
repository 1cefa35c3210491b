use Rattle.std.specs.List.{AllAdjacentBelow}
use Rattle.merge_walk.specs.Pieces.{PieceNotBehind}
use Rattle.merge_walk.proofs.pieces.is_in_order.Given as goal

abbrev pub invariant-pieces : goal.invariant-pieces
invariant-pieces l = AllAdjacentBelow PieceNotBehind l.pieces l.i
