use Rattle.std.proofs.Common.{map}
use Rattle.merge_walk.specs.Stores.{files_of, StoresFit}
use Rattle.merge_walk.specs.Walks.{StandsBehindSome}
use Rattle.merge_walk.proofs.tests.give_all.Given as goal

abbrev pub invariant-turns : goal.invariant-turns
invariant-turns g l = StandsBehindSome (files_of (map (λ s. g.T.Store.state s) l.stores.items)) l.walk × StoresFit (map (λ s. g.T.Store.state s) l.stores.items) l.walk.pieces.items
