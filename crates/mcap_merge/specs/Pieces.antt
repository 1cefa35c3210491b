-- What a merge reads again.
use Rattle.std.specs.Prelude.{ℕ, suc, List, [], ◌∷◌, ◌++◌}
use Rattle.merge_walk.specs.declared.pieces.Piece.{Piece}
use Rattle.merge_walk.specs.Pieces.{pieces_with}
use Rattle.mcap_merge.specs.declared.input.Input.{Input}

-- the pieces of the inputs from a number on
abbrev pub pieces_from : ℕ → List Input → List Piece
pieces_from number [] = []
pieces_from number (i ∷ is) = pieces_with number i.spans.items ++ pieces_from (suc number) is
