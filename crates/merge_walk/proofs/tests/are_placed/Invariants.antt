use Rattle.std.proofs.Common.{◌+◌, ◌^◌, ◌<◌, ◌≤◌, ℕ}
use Rattle.mcap_model.specs.Places.{At}
use Rattle.merge_walk.specs.declared.pieces.Piece.{Piece}
use Rattle.merge_walk.proofs.tests.are_placed.Given as goal

abbrev pub invariant-pieces : goal.invariant-pieces
invariant-pieces l = (k : ℕ) (p : Piece) → k < l.i → At l.pieces k p → (p.input < l.count) × (p.span.at + p.span.length ≤ 2 ^ 64)
