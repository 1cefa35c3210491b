use Rattle.std.proofs.Common.{◌≡◌, map, Option, Some, subst, rules}
use Rattle.merge_walk.specs.declared.turns.Turn.{Turn}
use Rattle.merge_walk.specs.Stores.{files_of}
use Rattle.merge_walk.specs.Walks.{Advances}
use Rattle.merge_walk.proofs.Calls.{stands_after, fits_after}
use Rattle.merge_walk.proofs.tests.give_all.Goals as goal

pub turns-preserved : goal.turns-preserved
turns-preserved g c =
    let olds = map (λ s. g.T.Store.state s) c.turns.stores.items in
    let news = map (λ s. g.T.Store.state s) c.advance.new.stores.items in
    let old = c.turns.walk in
    let new = c.advance.new.self in
    let is : c.in-Ok-Some.field-0 ≡ Some c.in-Ok-Some.turn = search rules in
    let advances = subst (λ (o : Option Turn). Advances (files_of olds) old new o) is c.in-Ok-Some.ensures.advances in (
      stands_after olds news old new c.in-Ok-Some.field-0 c.in-Ok-Some.ensures.stores c.in-Ok-Some.turn advances c.turns.invariant.0,
      fits_after olds news old new c.in-Ok-Some.field-0 c.in-Ok-Some.ensures.stores (Some c.in-Ok-Some.turn) advances c.turns.invariant.1,
    )
