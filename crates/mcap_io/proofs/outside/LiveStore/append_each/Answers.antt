-- A piece more was appended, or it was refused.
use Rattle.std.proofs.Common.{List, ℕ, refl, ap, length, ◌∙◌, arith}
use Rattle.mcap_io.proofs.Appending.{begins, ends-within, walked-within, some-there, added-none, added-more, added-all, each-leaves}
use Rattle.mcap_io.proofs.outside.LiveStore.append_each.Goals as goal

pub pieces-init : goal.pieces-init
pieces-init g c = (added-none _ _, refl, ap length c.bytes-len.ensures, omega arith)

pub piece_at-piece-requires : goal.piece_at-piece-requires
piece_at-piece-requires g c =
    let (so_far, still, long, waits) = c.pieces.invariant in
    begins _ _ so_far.walked (omega (arith, c.pieces-test.true, long))

pub returns-in-Err-clause-leaves : goal.returns-in-Err-clause-leaves
returns-in-Err-clause-leaves g c =
    let (so_far, still, long, waits) = c.pieces.invariant in
    each-leaves _ _ _ _ _ c.pieces.at _ _ c.in-Err.why so_far c.pieces-test.true long c.piece_at-piece.ensures c.in-Err.ensures.leaves

pub pieces-smaller-in-Ok : goal.pieces-smaller-in-Ok
pieces-smaller-in-Ok g c =
    let (so_far, still, long, waits) = c.pieces.invariant in
    let b = begins _ _ so_far.walked (omega (arith, c.pieces-test.true, long)) in
    let end = c.piece_at-piece.ensures b.before b.piece b.behind b.cut b.place in
    omega (arith, end.1, some-there _ _ b (g.met.P.Pieces.some c.args.pieces.now), c.pieces-test.true)

pub pieces-preserved-in-Ok : goal.pieces-preserved-in-Ok
pieces-preserved-in-Ok g c =
    let (so_far, still, long, waits) = c.pieces.invariant in
    let b = begins _ _ so_far.walked (omega (arith, c.pieces-test.true, long)) in
    let end = c.piece_at-piece.ensures b.before b.piece b.behind b.cut b.place in
    let more = c.in-Ok.ensures.waits in
    (added-more _ _ _ _ _ _ _ _ so_far c.pieces-test.true long c.piece_at-piece.ensures c.in-Ok.ensures.adds, c.in-Ok.ensures.cause ∙ still, long, omega (arith, more, waits, end.1, ap (λ (l : List ℕ). length l) end.0))

pub returns-clause-adds : goal.returns-clause-adds
returns-clause-adds g c =
    let (so_far, still, long, waits) = c.pieces.invariant in
    added-all _ _ _ _ _ so_far c.pieces-test.false long

pub returns-in-Err-clause-waits : goal.returns-in-Err-clause-waits
returns-in-Err-clause-waits g c =
    let (so_far, still, long, waits) = c.pieces.invariant in
    let b = begins _ _ so_far.walked (omega (arith, c.pieces-test.true, long)) in
    let end = c.piece_at-piece.ensures b.before b.piece b.behind b.cut b.place in
    let within = ends-within _ _ _ b (λ before piece behind cut place. (c.piece_at-piece.ensures before piece behind cut place).1) in
    let more = c.in-Err.ensures.waits in
    omega (arith, more, waits, within.1, end.1, ap (λ (l : List ℕ). length l) end.0)

pub returns-clause-waits : goal.returns-clause-waits
returns-clause-waits g c =
    let (so_far, still, long, waits) = c.pieces.invariant in
    omega (arith, waits, walked-within _ _ so_far.walked)
