use Rattle.std.proofs.Common.{refl, ap, sym, subst, Some, ◌∙◌}
use Rattle.summary_read.specs.PartSteps.{GivesStatistics}
use Rattle.summary_read.proofs.Holding.{slices_inside, found}
use Rattle.summary_read.proofs.loaded.Loaded.statistics.Goals as goal

pub content_at-requires-clause-inside : goal.content_at-requires-clause-inside
content_at-requires-clause-inside c =
    slices_inside c.deref.result.now c.self.inside.summary.items 11 c.deref-2.result.now c.self.inside.statistics.items c.deref.ensures.value c.deref-2.ensures.value c.self.invariant.1

pub returns-in-Ok : goal.returns-in-Ok
returns-in-Ok c =
    let here = found c.deref.result.now c.self.inside.summary.items 11 c.deref-2.result.now c.self.inside.statistics.items 0 c.content_at.result.now c.deref.ensures.value c.deref-2.ensures.value c.self.invariant.1 c.content_at.ensures in
    subst (λ t. GivesStatistics t (Some c.in-Ok.parsed)) (sym (ap (λ p. p.statistics) (sym c.self.view_is) ∙ here.at)) record { kind = refl; layout = c.in-Ok.ensures.shown }

pub unreachable-requires : goal.unreachable-requires
unreachable-requires c =
    let here = found c.deref.result.now c.self.inside.summary.items 11 c.deref-2.result.now c.self.inside.statistics.items 0 c.content_at.result.now c.deref.ensures.value c.deref-2.ensures.value c.self.invariant.1 c.content_at.ensures in
    let s = here.layout.statistics refl in c.in-Err.ensures.none s.0 s.1.layout
