use Rattle.std.proofs.Common.{arith}
use Rattle.buffer_swap.specs.Plays.{desk_out}
use Rattle.buffer_swap.proofs.Answering.{counts_none}
use Rattle.buffer_swap.proofs.seats.Board.count_some.Goals as goal

pub returns-else-count-gt0-clause-view : goal.returns-else-count-gt0-clause-view
returns-else-count-gt0-clause-view c =
    let none = c.if-count-gt0.false in
    counts_none c.args.seat.now.me.0 (desk_out c.args.seat.now.me.1) c.requires.desk.0 (c.requires.known (omega (arith, none)))
