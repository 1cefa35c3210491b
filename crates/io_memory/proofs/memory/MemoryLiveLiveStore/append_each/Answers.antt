-- A piece more was appended by a call of its own, or that was refused.
use Rattle.std.proofs.Common.{List, ℕ, refl, sym, ap, subst, length, Err, ◌∙◌, arith}
use Rattle.io_memory.specs.declared.memory.Piece.{Piece}
use Rattle.io_memory.specs.Planned.{planned, AppendsAsPlanned}
use Rattle.mcap_io.proofs.Appending.{begins, ends-within, walked-within, some-there, added-all, each-leaves}
use Rattle.io_memory.proofs.Planning.{planned-none, planned-more, planned-all, planned-fails, fails-so}
use Rattle.io_memory.proofs.memory.MemoryLiveLiveStore.append_each.Goals as goal

pub pieces-init : goal.pieces-init
pieces-init g c = (planned-none _ _ _ _, refl, refl, ap length c.bytes-len.ensures, omega arith)

pub piece_at-piece-requires : goal.piece_at-piece-requires
piece_at-piece-requires g c =
    let (so_far, still, plan, long, waits) = c.pieces.invariant in
    begins _ _ so_far.added.walked (omega (arith, c.pieces-test.true, long))

pub pieces-smaller : goal.pieces-smaller
pieces-smaller g c =
    let (so_far, still, plan, long, waits) = c.pieces.invariant in
    let b = begins _ _ so_far.added.walked (omega (arith, c.pieces-test.true, long)) in
    let end = c.piece_at-piece.ensures b.before b.piece b.behind b.cut b.place in
    omega (arith, end.1, some-there _ _ b (g.met.P.Pieces.some c.args.pieces.now), c.pieces-test.true)

pub pieces-preserved : goal.pieces-preserved
pieces-preserved g c =
    let (so_far, still, plan, long, waits) = c.pieces.invariant in
    let call = c.pieces.self.appends.made in
    let size = length c.piece_at-piece.result.bytes.now in
    let b = begins _ _ so_far.added.walked (omega (arith, c.pieces-test.true, long)) in
    let end = c.piece_at-piece.ensures b.before b.piece b.behind b.cut b.place in
    let more = c.in-Ok.ensures.waits in (
      planned-more _ _ _ _ _ _ _ _ _ _ _ _ so_far c.pieces-test.true long c.piece_at-piece.ensures c.in-Ok.ensures.adds (ap (λ v. planned v.items call size) (sym plan) ∙ c.in-Ok.ensures.planned) c.in-Ok.ensures.counted,
      c.in-Ok.ensures.cause ∙ still,
      c.in-Ok.ensures.plan ∙ plan,
      long,
      omega (arith, more, waits, end.1, ap (λ (l : List ℕ). length l) end.0),
    )

pub returns-in-Err-clause-leaves : goal.returns-in-Err-clause-leaves
returns-in-Err-clause-leaves g c =
    let (so_far, still, plan, long, waits) = c.pieces.invariant in
    each-leaves _ _ _ _ _ c.pieces.at _ _ c.in-Err.why so_far.added c.pieces-test.true long c.piece_at-piece.ensures c.in-Err.ensures.leaves

pub returns-in-Err-clause-planned : goal.returns-in-Err-clause-planned
returns-in-Err-clause-planned g c =
    let (so_far, still, plan, long, waits) = c.pieces.invariant in
    let call = c.pieces.self.appends.made in
    let size = length c.piece_at-piece.result.bytes.now in
    planned-fails _ _ _ _ _ _ _ _ c.pieces.at _ _ c.in-Err.why so_far c.pieces-test.true long c.piece_at-piece.ensures
    (subst (λ v. AppendsAsPlanned {T = Unit} (planned v.items call size) (Err c.in-Err.why)) plan (fails-so Piece _ c.in-Err.why c.in-Err.ensures.planned)) c.in-Err.ensures.counted

pub returns-clause-adds : goal.returns-clause-adds
returns-clause-adds g c =
    let (so_far, still, plan, long, waits) = c.pieces.invariant in
    added-all _ _ _ _ _ so_far.added c.pieces-test.false long

pub returns-clause-planned : goal.returns-clause-planned
returns-clause-planned g c =
    let (so_far, still, plan, long, waits) = c.pieces.invariant in
    planned-all _ _ _ _ _ _ _ _ so_far c.pieces-test.false long (g.met.P.Pieces.some c.args.pieces.now)

pub returns-in-Err-clause-waits : goal.returns-in-Err-clause-waits
returns-in-Err-clause-waits g c =
    let (so_far, still, plan, long, waits) = c.pieces.invariant in
    let b = begins _ _ so_far.added.walked (omega (arith, c.pieces-test.true, long)) in
    let end = c.piece_at-piece.ensures b.before b.piece b.behind b.cut b.place in
    let within = ends-within _ _ _ b (λ before piece behind cut place. (c.piece_at-piece.ensures before piece behind cut place).1) in
    let more = c.in-Err.ensures.waits in
    omega (arith, more, waits, within.1, end.1, ap (λ (l : List ℕ). length l) end.0)

pub returns-clause-waits : goal.returns-clause-waits
returns-clause-waits g c =
    let (so_far, still, plan, long, waits) = c.pieces.invariant in
    omega (arith, waits, walked-within _ _ so_far.added.walked)
