use Rattle.std.proofs.Common.{◌≡◌, List, [], ◌∷◌, ◌++◌, length, sym, ap, subst, ◌∙◌, append_assoc, arith}
use Rattle.std.specs.Prelude.{Result}
use Rattle.live_directory.specs.Reading.{unread}
use Rattle.live_watcher.specs.Watching.{WatcherState}
use Rattle.live_recording.specs.declared.seats.Unviewed.{Unviewed}
use Rattle.live_recording.specs.WatchedSteps.{SeatsMade}
use Rattle.live_recording.proofs.Seating.{all_but_last, seats_more}
use Rattle.live_recording.proofs.seats.make_seats.Goals as goal

pub sinks-preserved : goal.sinks-preserved
sinks-preserved g c =
    let at = c.sinks in
    let was = at.invariant in
    let sink = c.in-Some.sink in
    let steps = c.in-Some.ensures.steps.0 in
    let gone = c.in-Some.ensures.steps.1 in
    let popped = c.in-Some-pop.ensures in
    let seat = c.make_seat in
    let pushed = c.push_reserved.ensures in
    let state = g.L.LiveStore.state in
    let now = state seat.new.live in
    record {
      all = append_assoc at.yielded (sink ∷ []) _ ∙ rw (← steps) was.all;
      left = (let left = was.left in let short = ap length steps in omega arith);
      made =
          subst (λ (l : List (Result (WatcherState g.row.L-Extent.Denot) (Unviewed g.row.K.Denot))). SeatsMade g.K.Sink.state c.args.range (state c.args.live.now) (at.yielded ++ sink ∷ []) now l) (sym pushed.items)
          (seats_more g.K.Sink.state c.args.range (state c.args.live.now) (state at.live) now at.yielded at.seats.items sink seat.result was.made seat.ensures.held seat.ensures.waits seat.ensures.made);
      unread = all_but_last (λ r. r ≡ unread) at.readers.items c.pop.new.self.items c.in-Some-pop.reader popped.items was.unread;
      enough = (let enough = was.enough in let less = popped.cases in omega arith);
      count = (let count = was.count in let more = pushed.len in omega arith);
      room = pushed.capacity ∙ was.room;
    }
