use Rattle.std.proofs.Common.{◌≡◌}
use Rattle.buffer_swap.specs.Plays.{IsIdle}
use Rattle.buffer_swap.proofs.seats.Board.wait.Given as goal

abbrev pub invariant-loop : goal.invariant-loop
invariant-loop g l =
    (l.seat.table_id ≡ l.initial.seat.table_id) × (l.seat.me.0.pass ≡ l.initial.seat.me.0.pass) × (l.seat.me.0.post ≡ l.initial.seat.me.0.post) × IsIdle l.seat.me
