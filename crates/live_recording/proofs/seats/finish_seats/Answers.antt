use Rattle.std.proofs.Common.{rules, ◌≡◌, List, [], ◌∷◌, length, map, refl, sym, ap, subst, ◌∙◌, append_assoc, append-nil, length-append, arith}
use Rattle.std.specs.Prelude.{Result}
use Rattle.std.specs.Vec.Iter.{into_iter_items}
use Rattle.live_directory.specs.Published.{at_most_one}
use Rattle.live_watcher.specs.Watching.{WatcherState}
use Rattle.live_recording.specs.declared.seats.Unviewed.{Unviewed}
use Rattle.live_recording.specs.WatchedSteps.{SeatsEnd}
use Rattle.live_recording.proofs.Seating.{ends_none, ends_more, one_at_most, nothing_left}
use Rattle.live_recording.proofs.seats.finish_seats.Goals as goal

pub seats-init : goal.seats-init
seats-init g c =
    let room = c.args.room in
    let no_sinks = ap length c.requires.sinks.0 in
    let no_views = ap length c.requires.views.0 in
    let no_reports = ap length c.requires.reports.0 in
    record {
      every = refl;
      left = search rules;
      ends = ends_none g.X.Extent.tells g.K.Sink.state g.V.LiveView.failures c.args.note.now room.sinks.items room.views.items room.reports.items c.requires.sinks.0 c.requires.views.0 c.requires.reports.0;
      reports = omega arith;
      sinks = omega arith;
      views = omega arith;
      report_room = refl;
      sink_room = refl;
      view_room = refl;
    }

pub seats-preserved : goal.seats-preserved
seats-preserved g c =
    let at = c.seats in
    let was = at.invariant in
    let seat = c.in-Some.seat in
    let steps = c.in-Some.ensures.steps.0 in
    let gone = c.in-Some.ensures.steps.1 in
    let left = c.finish_seat-left.result in
    let now = c.put_left.new.all in
    let put = c.put_left.ensures in
    let few = one_at_most left.view in
    record {
      every = append_assoc at.yielded (seat ∷ []) _ ∙ rw (← steps) was.every;
      left = (let left = was.left in let short = ap length steps in omega arith);
      ends =
          ends_more g.X.Extent.tells g.K.Sink.state g.V.LiveView.failures c.args.note.now at.yielded seat at.all.sinks.items now.sinks.items at.all.views.items now.views.items at.all.reports.items now.reports.items
          left.sink left.view left.report was.ends c.finish_seat-left.ensures put.sinks put.views put.reports;
      reports = (let kept = was.reports in let more = ap length put.reports in omega (arith, length-append at.all.reports.items (left.report ∷ [])));
      sinks = (let kept = was.sinks in let more = ap length put.sinks in omega (arith, length-append at.all.sinks.items (left.sink ∷ [])));
      views = (let kept = was.views in let more = ap length put.views in omega (arith, few, length-append at.all.views.items (at_most_one left.view)));
      report_room = put.room.0 ∙ was.report_room;
      sink_room = put.room.2 ∙ was.sink_room;
      view_room = put.room.1 ∙ was.view_room;
    }

pub returns : goal.returns
returns g c =
    let at = c.seats in
    let none = c.in-None.ensures.steps in
    let empty : into_iter_items at.seat-iterator ≡ [] = nothing_left _ (sym at.invariant.left ∙ none.0) in
    let all = sym (append-nil at.yielded) ∙ rw empty at at.invariant.every ∙ c.into_iter-seat-iterator.ensures.into_iter_gives.0 in
    subst (λ (l : List (Result (WatcherState g.row.X.Denot) (Unviewed g.row.K.Denot))). SeatsEnd g.X.Extent.tells g.K.Sink.state c.args.note.now l (map g.K.Sink.state at.all.sinks.items) (map g.V.LiveView.failures at.all.views.items) at.all.reports.items) all at.invariant.ends
