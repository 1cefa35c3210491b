use Rattle.std.proofs.Common.{length, ◌-◌, ◌+◌, ◌≤◌, ◌≡◌}
use Rattle.std.specs.List.{concat}
use Rattle.mcap_io.proofs.Appending.{Added}
use Rattle.mcap_io.proofs.outside.LiveStore.append_each.Given as goal

abbrev pub invariant-pieces : goal.invariant-pieces
invariant-pieces g l =
    Added (g.Self.LiveStore.state l.fn.self).held (g.Self.LiveStore.state l.self).held (g.P.Pieces.list l.pieces) l.at
    × ((g.Self.LiveStore.state l.self).faults ≡ (g.Self.LiveStore.state l.fn.self).faults)
    × (l.len ≡ length (concat (g.P.Pieces.list l.pieces)))
    × ((g.Self.LiveStore.state l.self).waiting ≤ (g.Self.LiveStore.state l.fn.self).waiting + l.at)

abbrev pub decreases-pieces : goal.decreases-pieces
decreases-pieces g l = l.len - l.at
