use Rattle.std.proofs.Common.{ap}
use Rattle.buffer_swap.specs.Posts.{Post}
use Rattle.buffer_swap.proofs.Ending.{swapped_answer}
use Rattle.buffer_swap.proofs.seats.Drain.swap.Goals as goal

pub returns-clause-swapped : goal.returns-clause-swapped
returns-clause-swapped g c =
    let call = c.swap_in_turn in
    let kind = c.args.self.now.kind in
    swapped_answer c.args.self.now.seat.me c.wait.new.seat.me call.new.seat.me call.result c.wait.ensures.took (ap (λ (p : Post). p.seated) kind) (ap (λ (p : Post). p.drains) kind) call.ensures.swapped
