use Rattle.std.proofs.Common.{ap, ◌∙◌}
use Rattle.live_watcher.specs.Watching.{Written}
use Rattle.live_watcher.proofs.watcher.Watcher.run.Goals as goal

pub returns-then-not-look-clause-since : goal.returns-then-not-look-clause-since
returns-then-not-look-clause-since g c = λ first w. c.look.ensures.since first (c.looks.invariant.2 first w)

pub returns-then-not-look-clause-stays : goal.returns-then-not-look-clause-stays
returns-then-not-look-clause-stays g c = λ why is.
    let same = c.looks.invariant.3 why is in
    c.look.ensures.stays why (ap (λ (w : Written). w.end) same ∙ is) ∙ same
