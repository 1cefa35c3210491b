use Rattle.std.proofs.Common.{◌≡◌, ◌++◌, length, map, vec_capacity}
use Rattle.std.specs.Vec.Iter.{into_iter_items, into_iter_len}
use Rattle.mcap_model.specs.Places.{Each}
use Rattle.feed_lane.specs.PassCalls.{no_calls}
use Rattle.recorder.proofs.lanes.Lanes.add_all.Given as goal

abbrev pub invariant-sources : goal.invariant-sources
invariant-sources g l = record {
  all : l.yielded ++ into_iter_items l.source-iterator ≡ into_iter_items l.initial.source-iterator;
  left : into_iter_len l.source-iterator ≡ length (into_iter_items l.source-iterator);
  turn : l.self.control.seat.table_id ≡ l.initial.self.control.seat.table_id;
  limit : l.self.control.seat.me.0.pass.limit ≡ l.initial.self.control.seat.me.0.pass.limit;
  made : l.self.control.seat.me.0.post.made ≡ length l.yielded;
  known : l.self.control.seat.me.0.post.known ≡ l.initial.self.control.seat.me.0.post.known;
  closed : l.self.control.seat.me.0.post.closed ≡ l.initial.self.control.seat.me.0.post.closed;
  turns : Each (λ lane. lane.pass.publisher.seat.table_id ≡ l.initial.self.control.seat.table_id) l.self.lanes.items;
  passes : Each (λ lane. lane.pass.publisher.seat.me.0.pass ≡ no_calls l.initial.self.control.seat.me.0.pass.limit) l.self.lanes.items;
  waits : Each (λ lane. lane.pass.lossless ≡ l.initial.self.lossless) l.self.lanes.items;
  lossless : l.self.lossless ≡ l.initial.self.lossless;
  sources : map (λ lane. lane.source) l.self.lanes.items ≡ l.yielded;
  room : vec_capacity l.self.lanes ≡ vec_capacity l.initial.self.lanes;
  feeds : l.self.feeds ≡ l.initial.self.feeds;
  reports : l.self.reports ≡ l.initial.self.reports;
}
