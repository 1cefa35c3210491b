use Rattle.std.proofs.Common.{[], refl, sym, ap, ◌∙◌}
use Rattle.feed_lane.specs.Pass.{PassState}
use Rattle.buffer_swap.specs.Calls.{reasoned}
use Rattle.recorder.proofs.lanes.Lane.run.Goals as goal

pub publish_roused-report-requires : goal.publish_roused-report-requires
publish_roused-report-requires g c =
    let (limit, new) = c.requires in
    (limit, (refl, refl, refl, ap (λ (p : PassState). reasoned p []) (sym new), λ waits. refl))

pub returns-clause-turn : goal.returns-clause-turn
returns-clause-turn g c =
    let (limit, new) = c.requires in
    let (shown, since, limited, reports) = c.publish_roused-report.ensures.reports limit (refl, refl, refl, ap (λ (p : PassState). reasoned p []) (sym new), λ waits. refl) in
    since.0

pub returns-clause-ran : goal.returns-clause-ran
returns-clause-ran g c = λ limit new.
    let (shown, (turn, number, waits, same, unfull), limited, reports) = c.publish_roused-report.ensures.reports limit (refl, refl, refl, ap (λ (p : PassState). reasoned p []) (sym new), λ waits. refl) in
    record { feed = c.publish_roused-report.result; is = refl; shown = shown; same = same; limited = limited; unfull = λ is. unfull (waits ∙ is); reports = reports; lists = c.publish_roused-report.ensures.listed }
