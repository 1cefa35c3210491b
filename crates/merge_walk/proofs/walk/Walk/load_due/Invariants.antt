use Rattle.std.proofs.Common.{◌-◌, length, map}
use Rattle.merge_walk.proofs.Dues.{DueSoFar}
use Rattle.merge_walk.proofs.walk.Walk.load_due.Given as goal

abbrev pub decreases-pieces : goal.decreases-pieces
decreases-pieces g l = length l.self.pieces.items - l.self.next

abbrev pub invariant-pieces : goal.invariant-pieces
invariant-pieces g l = DueSoFar (map (λ s. g.T.Store.state s) l.fn.stores.items) (map (λ s. g.T.Store.state s) l.stores.items) l.fn.self l.self
