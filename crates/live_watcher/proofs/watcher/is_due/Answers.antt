use Rattle.std.proofs.Common.{◌≡◌, ◌≤◌, ◌<◌, ◌-◌, ◌/◌, length, get_or, inl, inr, arith}
use Rattle.std.proofs.lemmas.Bool.Decides.{nat_tests}
use Rattle.mcap_model.proofs.Places.{at_read}
use Rattle.live_watcher.proofs.Fronts.{next_front, last_or_is}
use Rattle.live_watcher.proofs.watcher.is_due.Goals as goal

pub returns-then-blocks-gt0-clause-follows : goal.returns-then-blocks-gt0-clause-follows
returns-then-blocks-gt0-clause-follows c = λ tested rise.
    let fronts = c.args.fronts.now in
    let newest = get_or fronts (length fronts - 1) 0 in
    let half : newest ≤ c.args.blocks / 2 = grind (arith, nat_tests) in
    next_front fronts c.args.blocks newest (omega (arith, c.if-count-eq0.false)) (at_read fronts (length fronts - 1) 0 (omega (arith, c.if-count-eq0.false))) (omega (arith, c.if-blocks-gt0.true)) (omega (arith, half)) rise

pub returns-then-blocks-gt0-clause-told : goal.returns-then-blocks-gt0-clause-told
returns-then-blocks-gt0-clause-told c = λ tested.
    let fronts = c.args.fronts.now in
    let newest = get_or fronts (length fronts - 1) 0 in
    let half : c.args.blocks / 2 < newest = grind (arith, nat_tests) in
    let last = last_or_is 0 fronts newest (omega (arith, c.if-count-eq0.false)) (at_read fronts (length fronts - 1) 0 (omega (arith, c.if-count-eq0.false))) in
    inr (omega (arith, half, last))
