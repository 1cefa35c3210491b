use Rattle.std.proofs.Common.{ap}
use Rattle.buffer_swap.specs.Posts.{Post}
use Rattle.buffer_swap.proofs.Ending.{stopped_answer}
use Rattle.buffer_swap.proofs.seats.Drain.stop.Goals as goal

pub returns-clause-stopped : goal.returns-clause-stopped
returns-clause-stopped g c =
    let call = c.stop_in_turn in
    stopped_answer c.args.self.now.seat.me c.wait.new.seat.me call.new.seat.me c.args.stop call.result c.wait.ensures.took (ap (λ (p : Post). p.seated) c.args.self.now.kind) call.ensures.stopped
