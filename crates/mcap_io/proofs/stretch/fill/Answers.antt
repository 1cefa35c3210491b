-- One read more goes on from what was filled; a read that gives nothing ends the input.
use Rattle.std.proofs.Common.{◌∙◌, ◌+◌, ◌-◌, ◌≤◌, ◌<◌, length, drop, arith, length-take, length-drop}
use borrow.Rule.Slice.PartMut.{same_len_mid}
use Rattle.mcap_io.proofs.Filling.{filled-more, filled-all}
use Rattle.mcap_io.proofs.stretch.fill.Goals as goal

pub returns-in-Ok-eq0-clause-fills : goal.returns-in-Ok-eq0-clause-fills
returns-in-Ok-eq0-clause-fills g c = λ rest told.
    let out = c.fill.out in
    let filled = c.fill.filled in
    let whole = same_len_mid filled (length out - filled) out c.read.new.out c.read.auto.out in
    let room : 0 < length c.read.new.out = omega (arith, c.read.auto.out, c.fill-test.true, length-take (length out - filled) (drop filled out), length-drop filled out) in
    filled-all rest out c.read.new.out (g.S.Source.state c.fill.source).left _ filled (length out - filled) _ _ c.in-Ok-eq0.field-0-test c.fill.invariant.bound (omega (arith, whole, c.fill.invariant.bound)) room (c.fill.invariant.so_far rest told)
    c.in-Ok-eq0.ensures.gives

pub fill-preserved : goal.fill-preserved
fill-preserved g c =
    let out = c.fill.out in
    let filled = c.fill.filled in
    let n = c.in-Ok.n in
    let whole = same_len_mid filled (length out - filled) out c.read.new.out c.read.auto.out in
    let fits : n ≤ length c.read.new.out = c.in-Ok.ensures.bound in
    let within : filled + n ≤ length out = omega (arith, c.read.auto.out, fits, c.fill.invariant.bound, length-take (length out - filled) (drop filled out), length-drop filled out) in
    record {
      bound = omega (arith, whole, within);
      still = c.in-Ok.ensures.cause.still ∙ c.fill.invariant.still;
      stays = g.S.Source.stays_on _ _ _ c.fill.invariant.stays c.in-Ok.ensures.stays;
      so_far = λ rest told.
          filled-more rest _ c.read.new.out (g.S.Source.state c.fill.source).left _ _ _ _ c.fill.invariant.bound fits (c.fill.invariant.so_far rest told) c.in-Ok.ensures.gives;
    }
