use Rattle.std.proofs.Common.{ap, subst, refl}
use Rattle.buffer_swap.specs.Posts.{Post}
use Rattle.buffer_swap.specs.Plays.{Sat}
use Rattle.buffer_swap.specs.Calls.{PublishedInTurn}
use Rattle.buffer_swap.proofs.Publishing.{tried_answer, too_large}
use Rattle.buffer_swap.proofs.seats.Publisher.try_publish.Goals as goal

pub returns-then-len-gt33554432-clause-answer : goal.returns-then-len-gt33554432-clause-answer
returns-then-len-gt33554432-clause-answer c = (refl, too_large c.args.self.now.seat.me.0.pass c.args.m.now _ refl c.if-len-gt33554432.true)

pub returns-clause-answer : goal.returns-clause-answer
returns-clause-answer c =
    let call = c.publish_in_turn in
    let took = c.take.ensures.took c.if-not-take.false in
    let published = subst (λ (x : Sat). PublishedInTurn x c.args.m.now call.result call.new.seat.me) c.found_out-found.ensures.same call.ensures.published in
    tried_answer c.args.self.now.seat.me c.take.new.seat.me call.new.seat.me c.args.m.now call.result took.0 took.1 (ap (λ (p : Post). p.seated) c.args.self.now.kind) c.if-len-gt33554432.false published
