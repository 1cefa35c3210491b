-- One write more goes on from what was written; a failed one adds a part of what was left of the piece.
use Rattle.std.proofs.Common.{◌∙◌, ap, ◌-◌, length, drop, arith, length-take, length-drop}
use Rattle.std.proofs.lemmas.Grind.{common_steps}
use Rattle.mcap_io.proofs.Filling.{written-more, written-part}
use Rattle.mcap_io.specs.Outside.{one_more}
use Rattle.mcap_io.proofs.stretch.write_all_of.Goals as goal

pub pieces-preserved : goal.pieces-preserved
pieces-preserved g c =
    let bytes = c.args.bytes.now in
    let taken = c.pieces.taken in
    record {
      bound = omega (arith, c.pieces.invariant.bound, c.in-Ok.ensures.bound, length-take (length bytes - taken) (drop taken bytes), length-drop taken bytes);
      still = c.in-Ok.ensures.cause.still ∙ c.pieces.invariant.still;
      so_far = written-more _ _ _ _ _ _ c.pieces.invariant.so_far c.in-Ok.ensures.takes;
    }

pub returns-in-Err : goal.returns-in-Err
returns-in-Err g c =
    let cause = c.in-Err.ensures.cause in (
      record { later = omega (arith, c.pieces.invariant.still, cause.later); once = cause.failed.once ∙ ap one_more c.pieces.invariant.still },
      c.pieces-test.true,
      written-part _ _ _ _ _ c.pieces.invariant.bound c.pieces.invariant.so_far c.in-Err.ensures.takes,
    )

pub returns : goal.returns
returns g c = grind (arith, common_steps)
