use Rattle.std.proofs.Common.{◌≡◌, ◌++◌, take}
use Rattle.merge_walk.specs.Pieces.{pieces_with}
use Rattle.merge_walk.proofs.pieces.pieces_of.Given as goal

abbrev pub invariant-spans : goal.invariant-spans
invariant-spans l = l.pieces.items ≡ l.fn.pieces.items ++ pieces_with l.input (take l.i l.spans)
