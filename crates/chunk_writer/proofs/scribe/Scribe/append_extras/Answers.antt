-- The extras that wait were appended, or one was refused.
use Rattle.std.proofs.Common.{List, length, refl, ap, subst, ◌∙◌, arith}
use Rattle.chunk_writer.specs.Stops.{StopCause}
use Rattle.chunk_writer.proofs.Gathered.{filling_on, filling_stopped, filling_done}
use Rattle.chunk_writer.proofs.scribe.Scribe.append_extras.Goals as goal

pub extras-init : goal.extras-init
extras-init g c = (λ options extras opened history is fills. fills, c.len-count.ensures, omega arith, refl, c.requires.ended, refl, refl)

pub extras-preserved : goal.extras-preserved
extras-preserved g c =
    let (so_far, count, within, same, ended, blocks, still) = c.extras.invariant in
    let less = c.extras-test.true in (
      filling_on g.L.LiveStore.state c.args.self.now c.extras.self c.append_extra.new.self c.extras.place (omega (arith, less, count)) same so_far c.in-Ok.ensures.fills,
      count,
      omega (arith, less),
      c.in-Ok.ensures.same.1 ∙ same,
      c.in-Ok.ensures.stays,
      c.in-Ok.ensures.same.0 ∙ blocks,
      c.in-Ok.ensures.cause ∙ still,
    )

pub append_extra-requires-clause-there : goal.append_extra-requires-clause-there
append_extra-requires-clause-there g c =
    let (so_far, count, within, same, ended, blocks, still) = c.extras.invariant in
    let size = ap (λ (l : List (List _)). length l) same in omega (arith, c.extras-test.true, count, size)

pub returns-in-Err-clause-refused : goal.returns-in-Err-clause-refused
returns-in-Err-clause-refused g c =
    let (so_far, count, within, same, ended, blocks, still) = c.extras.invariant in
    filling_stopped g.L.LiveStore.state c.args.self.now c.extras.self c.append_extra.new.self c.extras.place c.in-Err.stop _ _ (omega (arith, c.extras-test.true, count)) same so_far c.in-Err.ensures.refused

pub returns-in-Err-clause-same : goal.returns-in-Err-clause-same
returns-in-Err-clause-same g c =
    let (so_far, count, within, same, ended, blocks, still) = c.extras.invariant in
    c.in-Err.ensures.same.0 ∙ blocks

pub returns-in-Err-clause-cause : goal.returns-in-Err-clause-cause
returns-in-Err-clause-cause g c =
    let (so_far, count, within, same, ended, blocks, still) = c.extras.invariant in
    subst (λ faults. StopCause faults (g.L.LiveStore.state c.append_extra.new.self.store).faults c.in-Err.stop) still c.in-Err.ensures.cause

pub returns-clause-fills : goal.returns-clause-fills
returns-clause-fills g c =
    let (so_far, count, within, same, ended, blocks, still) = c.extras.invariant in
    filling_done g.L.LiveStore.state c.args.self.now c.extras.self c.extras.place (omega (arith, c.extras-test.false, count)) so_far
