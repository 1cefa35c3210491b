use Rattle.std.proofs.Common.{◌≡◌, Some}
use Rattle.mcap_model.specs.declared.ends.Stop.{Stop}
use Rattle.recorder.specs.Writing.{empty_buffer}
use Rattle.recorder.proofs.unopened.stop.Given as goal

abbrev pub invariant-swaps : goal.invariant-swaps
invariant-swaps g l = record {
  turn : l.drain.seat.table_id ≡ l.fn.drain.seat.table_id;
  spare : l.spare ≡ empty_buffer l.drain.seat.me.0.pass.limit;
  stops : (other : Stop) → l.drain.seat.me.0.post.stop ≡ Some other → other ≡ l.fn.why;
}
