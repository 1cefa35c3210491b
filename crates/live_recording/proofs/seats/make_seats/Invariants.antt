use Rattle.std.proofs.Common.{◌≡◌, ◌+◌, ◌++◌, vec_len, length, vec_capacity}
use Rattle.std.specs.List.{All}
use Rattle.std.specs.Vec.Iter.{into_iter_items, into_iter_len}
use Rattle.live_directory.specs.Reading.{unread}
use Rattle.live_recording.specs.WatchedSteps.{SeatsMade}
use Rattle.live_recording.proofs.seats.make_seats.Given as goal

abbrev pub invariant-sinks : goal.invariant-sinks
invariant-sinks g l = record {
  all : l.yielded ++ into_iter_items l.sink-iterator ≡ into_iter_items l.initial.sink-iterator;
  left : into_iter_len l.sink-iterator ≡ length (into_iter_items l.sink-iterator);
  made : SeatsMade g.K.Sink.state l.range (g.L.LiveStore.state l.initial.live) l.yielded (g.L.LiveStore.state l.live) l.seats.items;
  unread : All (λ r. r ≡ unread) l.readers.items;
  enough : vec_len l.readers ≡ into_iter_len l.sink-iterator;
  count : vec_len l.seats + into_iter_len l.sink-iterator ≡ into_iter_len l.initial.sink-iterator;
  room : vec_capacity l.seats ≡ vec_capacity l.initial.seats;
}
