use Rattle.std.proofs.Common.{◌≡◌, List, length, sym, subst, ◌∙◌, arith}
use Rattle.std.specs.Prelude.{Result}
use Rattle.mcap_model.proofs.Places.{at_within, at_read, at_one}
use Rattle.feed_lane.specs.Lanes.{InStep}
use Rattle.live_watcher.specs.Watching.{WatcherState}
use Rattle.live_recording.specs.declared.seats.Unviewed.{Unviewed}
use Rattle.live_recording.specs.WatchedSteps.{SeatRuns}
use Rattle.live_recording.proofs.Seating.{lent}
use Rattle.live_recording.proofs.seats.run_seats.Goals as goal

pub returns : goal.returns
returns g c =
    let before = c.args.seats.items in
    let slice = c.as_mut_slice in
    let old = slice.result.now in
    let now = c.for_each_mut.new.s in
    let many : length old ≡ length now = omega arith in
    let same = lent c.args.seats.len now before (omega (arith, slice.ensures.len, many)) in
    subst (λ (l : List (Result (WatcherState g.row.X.Denot) (Unviewed g.row.K.Denot))). InStep (SeatRuns g.X.Extent.tells) before l) (sym same)
    (subst (λ (l : List (Result (WatcherState g.row.X.Denot) (Unviewed g.row.K.Denot))). InStep (SeatRuns g.X.Extent.tells) l now) slice.ensures.value (
      many,
      λ n x y at_x at_y.
          let at = (c.for_each_mut.ensures n x (at_within old n x at_x)).1 in
          let here = at.argument_is ∙ at_one old n _ x (at_read old n x (at_within old n x at_x)) at_x in
          let after = at.left ∙ at_one now n _ y (at_read now n x (at_within now n y at_y)) at_y in
          rw here at (rw after at at.call),
    ))
