use Rattle.std.proofs.Common.{ap, sym, subst, arith}
use Rattle.history_ids.specs.Tables.{MayShare}
use Rattle.buffer_swap.specs.Posts.{Post}
use Rattle.buffer_swap.specs.Plays.{Sat}
use Rattle.buffer_swap.specs.Calls.{DeclaredInTurn}
use Rattle.buffer_swap.proofs.Publishing.{declared_answer, may_share, too_wide}
use Rattle.buffer_swap.proofs.seats.Publisher.declare_sharing.Goals as goal

pub returns-then-len-gt1048576-clause-answer : goal.returns-then-len-gt1048576-clause-answer
returns-then-len-gt1048576-clause-answer g c = too_wide c.args.self.now.seat.me.0.pass c.args.channel.now _ c.declared_size-len.ensures c.if-len-gt1048576.true

pub returns-clause-answer : goal.returns-clause-answer
returns-clause-answer g c =
    let call = c.declare_in_turn-answer in
    let small = c.if-len-gt1048576.false in
    let declared = subst (λ (x : Sat). DeclaredInTurn x c.args.channel.now call.result call.new.seat.me) c.found_out-found.ensures.same call.ensures.declared in
    declared_answer c.args.self.now.seat.me c.wait.new.seat.me call.new.seat.me c.args.channel.now call.result c.wait.ensures.took (ap (λ (p : Post). p.seated) c.args.self.now.kind) (omega (arith, small, c.declared_size-len.ensures)) declared

pub declare_in_turn-answer-requires-clause-shares : goal.declare_in_turn-answer-requires-clause-shares
declare_in_turn-answer-requires-clause-shares g c =
    let shares = may_share c.args.self.now.seat.me c.wait.new.seat.me c.args.channel.now.schema c.args.like c.wait.ensures.took (ap (λ (p : Post). p.seated) c.args.self.now.kind) c.requires.names in
    subst (λ (x : Sat). MayShare x.0.hand.ids c.args.channel.now.schema c.args.like) (sym c.found_out-found.ensures.same) shares
