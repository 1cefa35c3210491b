use Rattle.std.proofs.Common.{ap, refl, rules, subst, sym}
use Rattle.buffer_swap.specs.Calls.{PublishesMessage}
use Rattle.buffer_swap.proofs.Publishing.{too_large}
use Rattle.buffer_swap.proofs.Waiting.{published_behind}
use Rattle.buffer_swap.proofs.seats.Publisher.publish_lossless.Goals as goal

pub returns-then-len-gt33554432-clause-answer : goal.returns-then-len-gt33554432-clause-answer
returns-then-len-gt33554432-clause-answer g c = too_large c.args.self.now.seat.me.0.pass c.args.m.now _ refl c.if-len-gt33554432.true

pub returns-then-not-met_full-clause-answer : goal.returns-then-not-met_full-clause-answer
returns-then-not-met_full-clause-answer g c =
    let call = c.publish_once-answer in
    let published = published_behind c.args.self.now.seat.me.0.pass c.tries.self.seat.me.0.pass call.new.self.seat.me.0.pass c.args.m.now call.result c.tries.invariant.2 c.if-len-gt33554432.false (call.ensures.answer (search rules)) in
    subst (λ pass. PublishesMessage c.args.self.now.seat.me.0.pass pass c.args.m.now call.result) (sym (ap (λ seat. seat.me.0.pass) c.let_drain_swap.ensures.seat)) published
