use Rattle.std.proofs.Common.{refl, ap, subst}
use Rattle.mcap_model.specs.Made.{top}
use Rattle.mcap_model.specs.Places.{At}
use Rattle.summary_read.proofs.Holding.{slices_inside, found}
use Rattle.summary_read.proofs.loaded.Loaded.attachment_index.Goals as goal

pub content_at-requires-clause-inside : goal.content_at-requires-clause-inside
content_at-requires-clause-inside c =
    slices_inside c.deref.result.now c.self.inside.summary.items 10 c.deref-2.result.now c.self.inside.attachment_indexes.items c.deref.ensures.value c.deref-2.ensures.value c.self.invariant.5

pub returns-in-Ok : goal.returns-in-Ok
returns-in-Ok c =
    let here = found c.deref.result.now c.self.inside.summary.items 10 c.deref-2.result.now c.self.inside.attachment_indexes.items c.args.i c.content_at.result.now c.deref.ensures.value c.deref-2.ensures.value c.self.invariant.5 c.content_at.ensures in
    (top 10 c.content_at.result.now, subst (λ l. At l c.args.i (top 10 c.content_at.result.now)) (ap (λ p. p.attachment_indexes) c.self.view_is) here.at, record { kind = refl; layout = c.in-Ok.ensures.shown })

pub unreachable-requires : goal.unreachable-requires
unreachable-requires c =
    let here = found c.deref.result.now c.self.inside.summary.items 10 c.deref-2.result.now c.self.inside.attachment_indexes.items c.args.i c.content_at.result.now c.deref.ensures.value c.deref-2.ensures.value c.self.invariant.5 c.content_at.ensures in
    let s = here.layout.attachment_index refl in c.in-Err.ensures.none s.0 s.1.layout
