-- A step goes on from what was filled; one that doesn't fill its room ends the input.
use Rattle.std.proofs.Common.{◌≡◌, ◌∙◌, ◌+◌, ◌-◌, ◌≤◌, ◌<◌, ℕ, List, length, drop, subst, sym, arith, length-drop}
use Rattle.mcap_io.specs.OutsideCalls.{TakesFront}
use Rattle.mcap_io.proofs.Filling.{filled-on, filled-end, filled-lost}
use Rattle.mcap_io.proofs.stretch.read_in_steps.Goals as goal

pub returns-in-Err-clause-taken : goal.returns-in-Err-clause-taken
returns-in-Err-clause-taken g c = λ rest told.
    let filled = c.steps.filled in
    let room = c.steps.room in
    let more : filled < room = c.steps.invariant.some c.steps-test.true in
    filled-lost rest c.steps.buffer.items _ _ filled (room - filled) c.args.len (omega (arith, more, c.steps.invariant.fits)) (c.steps.invariant.so_far rest told) c.in-Err.ensures.fills

pub returns-then-filled-room-clause-taken : goal.returns-then-filled-room-clause-taken
returns-then-filled-room-clause-taken g c = λ rest told.
    let filled = c.steps.filled in
    let room = c.steps.room in
    let out = c.read_on.new.buffer.items in
    let n = c.in-Ok.n in
    let size : length out ≡ room = sym c.read_on.new.buffer.ok.0 ∙ c.in-Ok.ensures.room in
    let within : n ≤ length (drop filled out) = omega (arith, size, c.in-Ok.ensures.bound, length-drop filled out) in
    let short : n < room - filled = omega (arith, c.if-filled-room.true) in
    let fits : filled + (room - filled) ≤ c.args.len = omega (arith, c.steps.invariant.fits, c.in-Ok.ensures.bound) in
    subst (λ l. TakesFront rest (g.S.Source.state c.read_on.new.source).left c.args.len l) (sym {A = List ℕ} c.truncate.ensures.items)
    (filled-end rest c.steps.buffer.items out _ _ filled n (room - filled) c.args.len c.in-Ok.ensures.front within short fits (c.steps.invariant.so_far rest told) c.in-Ok.ensures.fills)

pub steps-preserved : goal.steps-preserved
steps-preserved g c =
    let filled = c.steps.filled in
    let room = c.steps.room in
    let out = c.read_on.new.buffer.items in
    let n = c.in-Ok.n in
    let size : length out ≡ room = sym c.read_on.new.buffer.ok.0 ∙ c.in-Ok.ensures.room in
    let within : n ≤ length (drop filled out) = omega (arith, size, c.in-Ok.ensures.bound, length-drop filled out) in
    let whole : n ≡ room - filled = omega (arith, c.if-filled-room.false, c.in-Ok.ensures.bound) in
    record {
      bound = omega (arith, size, c.in-Ok.ensures.bound);
      within = omega (arith, c.steps.invariant.fits, c.in-Ok.ensures.bound);
      fits = omega (arith, c.min-room-in-steps.ensures);
      some = λ less. omega (arith, less, c.min-room-in-steps.ensures, c.saturating_mul.ensures, c.if-filled-room.false, c.in-Ok.ensures.bound, c.steps.invariant.some c.steps-test.true);
      still = c.in-Ok.ensures.cause ∙ c.steps.invariant.still;
      stays = g.S.Source.stays_on _ _ _ c.steps.invariant.stays c.in-Ok.ensures.stays;
      small = λ few.
          let small = c.steps.invariant.small few in
          (omega (arith, small.0, c.min-room-in-steps.ensures, c.saturating_mul.ensures), λ less. absurd (omega (arith, less, small.0, c.if-filled-room.false)));
      so_far = λ rest told. filled-on rest c.steps.buffer.items out _ _ filled n (room - filled) c.in-Ok.ensures.front within whole (c.steps.invariant.so_far rest told) c.in-Ok.ensures.fills;
    }
