use Rattle.std.proofs.Common.{◌≡◌, []}
use Rattle.recording_tests.proofs.turns.drain_all.Given as goal

abbrev pub invariant-swaps : goal.invariant-swaps
invariant-swaps g l = (l.spare ≡ record { limit = l.drain.seat.me.0.pass.limit; records = [] }) × (l.drain.seat.table_id ≡ l.initial.drain.seat.table_id)
