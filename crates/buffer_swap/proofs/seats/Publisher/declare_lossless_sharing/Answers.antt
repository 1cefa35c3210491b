use Rattle.std.proofs.Common.{rules, arith}
use Rattle.buffer_swap.proofs.Naming.{names_looking}
use Rattle.buffer_swap.proofs.Publishing.{too_wide}
use Rattle.buffer_swap.proofs.Waiting.{declared_behind}
use Rattle.buffer_swap.proofs.seats.Publisher.declare_lossless_sharing.Goals as goal

pub returns-then-len-gt1048576-clause-answer : goal.returns-then-len-gt1048576-clause-answer
returns-then-len-gt1048576-clause-answer g c = too_wide c.args.self.now.seat.me.0.pass c.args.channel.now _ c.declared_size-len.ensures c.if-len-gt1048576.true

pub returns-then-not-found_full-clause-answer : goal.returns-then-not-found_full-clause-answer
returns-then-not-found_full-clause-answer g c =
    let call = c.declare_once-answer in
    let small = c.if-len-gt1048576.false in
    declared_behind c.args.self.now.seat.me.0.pass c.tries.self.seat.me.0.pass call.new.self.seat.me.0.pass c.args.channel.now call.result c.tries.invariant.2 (omega (arith, small, c.declared_size-len.ensures)) (call.ensures.answer (search rules))

pub declare_once-answer-requires-clause-names : goal.declare_once-answer-requires-clause-names
declare_once-answer-requires-clause-names g c =
    names_looking c.args.self.now.seat.me.0.pass c.tries.self.seat.me.0.pass c.args.like c.args.channel.now.schema c.tries.invariant.2 c.requires.names
