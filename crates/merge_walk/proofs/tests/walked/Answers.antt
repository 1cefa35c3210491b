use Rattle.std.proofs.Common.{◌≡◌, length, refl, arith}
use Rattle.merge_walk.proofs.Calls.{stands_at_first}
use Rattle.merge_walk.proofs.Placed.{placed_fit}
use Rattle.merge_walk.proofs.tests.walked.Goals as goal

pub give_all-requires-clause-stands : goal.give_all-requires-clause-stands
give_all-requires-clause-stands c = stands_at_first _ c.new-walk.result c.new-walk.ensures.stands

pub give_all-requires-clause-fits : goal.give_all-requires-clause-fits
give_all-requires-clause-fits c =
    let stores = c.loop-bytes.stores in
    let many : c.len.result ≡ length stores.items = omega (arith, c.len.ensures, stores.ok.0) in
    placed_fit _ stores.items c.len.result c.deref.result.now c.loop-bytes.pieces.items _ (λ x. refl) many c.deref.ensures.value (c.are_placed.ensures c.if-not-are_placed.false) c.new-walk.ensures.pieces
