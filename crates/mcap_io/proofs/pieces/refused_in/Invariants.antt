use Rattle.std.proofs.Common.{length, ◌-◌, ◌≡◌, ◌<◌, ◌≤◌}
use Rattle.std.specs.List.{concat}
use Rattle.mcap_io.proofs.Appending.{Walked}
use Rattle.mcap_io.proofs.pieces.refused_in.Given as goal

abbrev pub invariant-pieces : goal.invariant-pieces
invariant-pieces g l = Walked (g.P.Pieces.list l.pieces) l.at × (l.len ≡ length (concat (g.P.Pieces.list l.pieces))) × (l.at < l.len) × (l.at ≤ l.taken)

abbrev pub decreases-pieces : goal.decreases-pieces
decreases-pieces g l = l.len - l.at
