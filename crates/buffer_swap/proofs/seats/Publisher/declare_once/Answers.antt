use Rattle.std.proofs.Common.{ap, sym, subst}
use Rattle.history_ids.specs.Tables.{MayShare}
use Rattle.buffer_swap.specs.Posts.{Post}
use Rattle.buffer_swap.specs.Plays.{Sat}
use Rattle.buffer_swap.specs.Calls.{NamedInTurn}
use Rattle.buffer_swap.proofs.Publishing.{may_share}
use Rattle.buffer_swap.proofs.Waiting.{named_declared, named_full}
use Rattle.buffer_swap.proofs.seats.Publisher.declare_once.Goals as goal

pub returns-clause-answer : goal.returns-clause-answer
returns-clause-answer g c = λ unfull.
    let call = c.name_in_turn-answer in
    let named = subst (λ (x : Sat). NamedInTurn x c.args.channel.now call.result call.new.seat.me) c.found_out-found.ensures.same call.ensures.declared in
    named_declared c.args.self.now.seat.me c.wait.new.seat.me call.new.seat.me c.args.channel.now call.result c.wait.ensures.took (ap (λ (p : Post). p.seated) c.args.self.now.kind) c.requires.small named unfull

pub returns-clause-full : goal.returns-clause-full
returns-clause-full g c = λ held from to full.
    let call = c.name_in_turn-answer in
    let named = subst (λ (x : Sat). NamedInTurn x c.args.channel.now call.result call.new.seat.me) c.found_out-found.ensures.same call.ensures.declared in
    named_full c.args.self.now.seat.me c.wait.new.seat.me call.new.seat.me c.args.channel.now call.result held from to full c.wait.ensures.took (ap (λ (p : Post). p.seated) c.args.self.now.kind) named

pub name_in_turn-answer-requires-clause-shares : goal.name_in_turn-answer-requires-clause-shares
name_in_turn-answer-requires-clause-shares g c =
    let shares = may_share c.args.self.now.seat.me c.wait.new.seat.me c.args.channel.now.schema c.args.like c.wait.ensures.took (ap (λ (p : Post). p.seated) c.args.self.now.kind) c.requires.names in
    subst (λ (x : Sat). MayShare x.0.hand.ids c.args.channel.now.schema c.args.like) (sym c.found_out-found.ensures.same) shares
