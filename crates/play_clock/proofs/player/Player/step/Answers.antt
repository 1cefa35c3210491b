-- What is shown at a line, and for which lines the player stands after it.
use Rattle.std.proofs.Common.{◌≤◌, ℕ, length, subst, sym}
use Rattle.play_clock.specs.Playing.{IsTaken, time_at}
use Rattle.play_clock.proofs.Steps.{Ahead, step_plays, step_stands}
use Rattle.play_clock.proofs.player.Player.step.Goals as goal

pub returns-clause-shows : goal.returns-clause-shows
returns-clause-shows g c = λ lines stands.
    let times = g.M.Timeline.times c.args.list.now in
    let found = c.first_after-to.ensures in
    step_plays times lines c.args.self.now c.args.line.now c.front-from.result c.first_after-to.result stands c.front-from.ensures
    (λ within. subst (Ahead times c.front-from.result c.first_after-to.result) c.time_of-value.ensures.value (record { order = found.from; within = found.within within; before = found.before; after = found.after }))

pub returns-clause-stands : goal.returns-clause-stands
returns-clause-stands g c = λ lines stands.
    let times = g.M.Timeline.times c.args.list.now in
    let found = c.first_after-to.ensures in
    step_stands times lines c.args.self.now c.after-next.result c.args.line.now c.front-from.result c.first_after-to.result stands c.requires.later c.front-from.ensures
    (λ within. subst (Ahead times c.front-from.result c.first_after-to.result) c.time_of-value.ensures.value (record { order = found.from; within = found.within within; before = found.before; after = found.after }))
    (subst (λ (v : ℕ). IsTaken c.args.self.now c.args.line.now v c.first_after-to.result c.after-next.result) c.time_of-value.ensures.value c.after-next.ensures) c.after-next.result.ordered
