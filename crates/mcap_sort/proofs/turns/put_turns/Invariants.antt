use Rattle.std.proofs.Common.{◌≡◌, map, Ok}
use Rattle.chunk_writer.specs.declared.phase.Phase.TheVariants as phases
use Rattle.merge_walk.specs.Stores.{files_of, StoresFit, LeavesStores}
use Rattle.mcap_sort.specs.Turns.{PutSoFar}
use Rattle.mcap_sort.proofs.turns.put_turns.Given as goal

abbrev pub invariant-turns : goal.invariant-turns
invariant-turns g l =
    PutSoFar g.L.LiveStore.state (files_of (map (λ s. g.T.Store.state s) l.fn.stores.items)) l.gathered l.walk l.fn.k l.k
    × (l.walk.pieces ≡ l.fn.walk.pieces)
    × StoresFit (map (λ s. g.T.Store.state s) l.stores.items) l.walk.pieces.items
    × LeavesStores {X = Unit {0}} (map (λ s. g.T.Store.state s) l.fn.stores.items) (map (λ s. g.T.Store.state s) l.stores.items) l.fn.walk l.walk (Ok tt)
    × (l.k.scribe.plan.phase ≡ phases.Going)
    × ((g.L.LiveStore.state l.k.scribe.store).faults ≡ (g.L.LiveStore.state l.fn.k.scribe.store).faults)
