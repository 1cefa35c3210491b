use Rattle.std.proofs.Common.{◌≡◌}
use Rattle.recording_tests.proofs.turns.Lane.run.Given as goal

abbrev pub invariant-messages : goal.invariant-messages
invariant-messages g l = l.self.publisher.seat.table_id ≡ l.initial.self.publisher.seat.table_id
