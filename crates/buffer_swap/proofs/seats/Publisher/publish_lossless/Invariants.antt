use Rattle.std.proofs.Common.{◌≡◌}
use Rattle.buffer_swap.specs.Calls.{LooksOn}
use Rattle.buffer_swap.proofs.seats.Publisher.publish_lossless.Given as goal

abbrev pub invariant-tries : goal.invariant-tries
invariant-tries g l =
    (l.self.seat.table_id ≡ l.initial.self.seat.table_id) × (l.self.number ≡ l.initial.self.number) × LooksOn l.initial.self.seat.me.0.pass l.self.seat.me.0.pass × (l.self.last ≡ l.initial.self.last)
