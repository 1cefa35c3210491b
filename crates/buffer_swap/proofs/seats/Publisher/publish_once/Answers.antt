use Rattle.std.proofs.Common.{ap, subst}
use Rattle.buffer_swap.specs.Posts.{Post}
use Rattle.buffer_swap.specs.Plays.{Sat}
use Rattle.buffer_swap.specs.Calls.{TriedInTurn}
use Rattle.buffer_swap.proofs.Waiting.{tried_published, tried_full}
use Rattle.buffer_swap.proofs.seats.Publisher.publish_once.Goals as goal

pub returns-clause-answer : goal.returns-clause-answer
returns-clause-answer g c = λ unfull.
    let call = c.try_in_turn in
    let tried = subst (λ (x : Sat). TriedInTurn x c.args.m.now call.result call.new.seat.me) c.found_out-found.ensures.same call.ensures.tried in
    tried_published c.args.self.now.seat.me c.wait.new.seat.me call.new.seat.me c.args.m.now call.result c.wait.ensures.took (ap (λ (p : Post). p.seated) c.args.self.now.kind) c.requires tried unfull

pub returns-clause-full : goal.returns-clause-full
returns-clause-full g c = λ held from to full.
    let call = c.try_in_turn in
    let tried = subst (λ (x : Sat). TriedInTurn x c.args.m.now call.result call.new.seat.me) c.found_out-found.ensures.same call.ensures.tried in
    tried_full c.args.self.now.seat.me c.wait.new.seat.me call.new.seat.me c.args.m.now call.result held from to full c.wait.ensures.took (ap (λ (p : Post). p.seated) c.args.self.now.kind) tried
