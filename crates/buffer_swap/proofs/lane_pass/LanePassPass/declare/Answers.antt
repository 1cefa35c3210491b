use Rattle.std.proofs.Common.{sym, subst, refl, ◌∙◌, true≢false}
use Rattle.feed_lane.specs.Pass.{PassState}
use Rattle.feed_lane.specs.PassCalls.{DeclaredInto}
use Rattle.buffer_swap.specs.Calls.{reasoned}
use Rattle.buffer_swap.proofs.Fulls.{declared_unfull}
use Rattle.buffer_swap.proofs.Naming.{names_if}
use Rattle.buffer_swap.proofs.lane_pass.LanePassPass.declare.Goals as goal

pub returns-then-self-clause-shows : goal.returns-then-self-clause-shows
returns-then-self-clause-shows g c = λ begun before (turn, number, lossless, since, unfull).
    let call = c.declare_lossless in
    let (more, answered) = call.ensures.answer before.reasons in
    let after = reasoned call.new.self.seat.me.0.pass more in
    let there = subst (λ (p : PassState). DeclaredInto p after c.args.channel.now call.result) (sym since) answered in
    (after, (call.ensures.turn ∙ turn, call.ensures.number ∙ number, lossless, refl, λ waits. declared_unfull before after c.args.channel.now call.result there call.ensures.unfull ∙ unfull waits), there)

pub returns-clause-shows : goal.returns-clause-shows
returns-clause-shows g c = λ begun before (turn, number, lossless, since, unfull).
    let call = c.declare in
    let (more, answered) = call.ensures.answer before.reasons in
    let after = reasoned call.new.self.seat.me.0.pass more in
    let there = subst (λ (p : PassState). DeclaredInto p after c.args.channel.now call.result) (sym since) answered in
    (after, (call.ensures.turn ∙ turn, call.ensures.number ∙ number, lossless, refl, λ waits. absurd (true≢false (sym waits ∙ c.if-self.false))), there)

pub returns-then-self-clause-knows : goal.returns-then-self-clause-knows
returns-then-self-clause-knows g c =
    let call = c.declare_lossless in
    names_if c.args.self.now.publisher.seat.me.0.pass call.new.self.seat.me.0.pass c.args.channel.now call.result c.args.self.now.publisher.last call.new.self.last call.ensures.answer call.ensures.last

pub returns-clause-knows : goal.returns-clause-knows
returns-clause-knows g c =
    let call = c.declare in
    names_if c.args.self.now.publisher.seat.me.0.pass call.new.self.seat.me.0.pass c.args.channel.now call.result c.args.self.now.publisher.last call.new.self.last call.ensures.answer call.ensures.last
