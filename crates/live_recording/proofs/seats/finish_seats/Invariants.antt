use Rattle.std.proofs.Common.{◌≡◌, ◌+◌, ◌≤◌, ◌++◌, vec_len, length, map, vec_capacity}
use Rattle.std.specs.Vec.Iter.{into_iter_items, into_iter_len}
use Rattle.live_recording.specs.WatchedSteps.{SeatsEnd}
use Rattle.live_recording.proofs.seats.finish_seats.Given as goal

abbrev pub invariant-seats : goal.invariant-seats
invariant-seats g l = record {
  every : l.yielded ++ into_iter_items l.seat-iterator ≡ into_iter_items l.initial.seat-iterator;
  left : into_iter_len l.seat-iterator ≡ length (into_iter_items l.seat-iterator);
  ends : SeatsEnd g.X.Extent.tells g.K.Sink.state l.note l.yielded (map g.K.Sink.state l.all.sinks.items) (map g.V.LiveView.failures l.all.views.items) l.all.reports.items;
  reports : vec_len l.all.reports + into_iter_len l.seat-iterator ≡ into_iter_len l.initial.seat-iterator;
  sinks : vec_len l.all.sinks + into_iter_len l.seat-iterator ≡ into_iter_len l.initial.seat-iterator;
  views : vec_len l.all.views + into_iter_len l.seat-iterator ≤ into_iter_len l.initial.seat-iterator;
  report_room : vec_capacity l.all.reports ≡ vec_capacity l.initial.all.reports;
  sink_room : vec_capacity l.all.sinks ≡ vec_capacity l.initial.all.sinks;
  view_room : vec_capacity l.all.views ≡ vec_capacity l.initial.all.views;
}
