use Rattle.std.proofs.Common.{◌≡◌, ◌*◌, length, map, Ok}
use Rattle.history_ids.specs.Tables.{HasSchemas}
use Rattle.chunk_writer.specs.declared.phase.Phase.TheVariants as phases
use Rattle.merge_walk.specs.Stores.{files_of, StoresFit, LeavesStores}
use Rattle.mcap_merge.specs.Turns.{sources, PutSoFar}
use Rattle.mcap_merge.proofs.turns.put_turns.Given as goal

abbrev pub invariant-turns : goal.invariant-turns
invariant-turns g l =
    PutSoFar g.P.Pen.adds (sources (files_of (map (λ s. g.T.Store.state s) l.fn.stores.items)) l.inputs) l.walk l.count l.joiner l.fn.pen l.pen
    × (l.walk.pieces ≡ l.fn.walk.pieces)
    × StoresFit (map (λ s. g.T.Store.state s) l.stores.items) l.walk.pieces.items
    × LeavesStores {X = Unit {0}} (map (λ s. g.T.Store.state s) l.fn.stores.items) (map (λ s. g.T.Store.state s) l.stores.items) l.fn.walk l.walk (Ok tt)
    × HasSchemas l.joiner.table
    × (length l.joiner.given.items ≡ length l.inputs * 65536)
    × (g.P.Pen.phase l.pen ≡ phases.Going)
    × (g.P.Pen.failures l.pen ≡ g.P.Pen.failures l.fn.pen)
