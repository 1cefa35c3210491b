use Rattle.std.proofs.Common.{◌≡◌, ◌+◌, ◌++◌, vec_len, length, map, vec_capacity, Some}
use Rattle.std.specs.Vec.Iter.{into_iter_items, into_iter_len}
use Rattle.mcap_model.specs.Places.{Each}
use Rattle.buffer_swap.specs.Plays.{gathered, Unclosed}
use Rattle.recorder.proofs.lanes.Lanes.gather.Given as goal

abbrev pub invariant-lanes : goal.invariant-lanes
invariant-lanes g l = record {
  all : l.yielded ++ into_iter_items l.lane-iterator ≡ into_iter_items l.initial.lane-iterator;
  left : into_iter_len l.lane-iterator ≡ length (into_iter_items l.lane-iterator);
  turn : l.self.control.seat.table_id ≡ l.initial.self.control.seat.table_id;
  known : l.self.control.seat.me.0.post.known ≡ l.initial.self.control.seat.me.0.post.known ++ map (λ lane. gathered lane.pass.publisher.seat.me.0) l.yielded;
  unclosed : Each (λ lane. Unclosed lane.pass.publisher.seat.me.0.pass) l.yielded;
  closed : l.self.control.seat.me.0.post.closed ≡ l.initial.self.control.seat.me.0.post.closed;
  made : l.self.control.seat.me.0.post.made ≡ l.initial.self.control.seat.me.0.post.made;
  feeds : l.self.feeds.items ≡ l.initial.self.feeds.items ++ map (λ lane. lane.source) l.yielded;
  reports : map Some l.self.reports.items ≡ map Some l.initial.self.reports.items ++ map (λ lane. lane.report) l.yielded;
  count : vec_len l.self.reports ≡ vec_len l.initial.self.reports + length l.yielded;
  room : vec_capacity l.self.feeds ≡ vec_capacity l.initial.self.feeds;
  report_room : vec_capacity l.self.reports ≡ vec_capacity l.initial.self.reports;
}
