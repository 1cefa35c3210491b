use Rattle.std.proofs.Common.{refl, ap, subst}
use Rattle.mcap_model.specs.Made.{top}
use Rattle.mcap_model.specs.Places.{At}
use Rattle.summary_read.proofs.Holding.{slices_inside, found}
use Rattle.summary_read.proofs.loaded.Loaded.metadata_index.Goals as goal

pub content_at-requires-clause-inside : goal.content_at-requires-clause-inside
content_at-requires-clause-inside c =
    slices_inside c.deref.result.now c.self.inside.summary.items 13 c.deref-2.result.now c.self.inside.metadata_indexes.items c.deref.ensures.value c.deref-2.ensures.value c.self.invariant.6

pub returns-in-Ok : goal.returns-in-Ok
returns-in-Ok c =
    let here = found c.deref.result.now c.self.inside.summary.items 13 c.deref-2.result.now c.self.inside.metadata_indexes.items c.args.i c.content_at.result.now c.deref.ensures.value c.deref-2.ensures.value c.self.invariant.6 c.content_at.ensures in
    (top 13 c.content_at.result.now, subst (λ l. At l c.args.i (top 13 c.content_at.result.now)) (ap (λ p. p.metadata_indexes) c.self.view_is) here.at, record { kind = refl; layout = c.in-Ok.ensures.shown })

pub unreachable-requires : goal.unreachable-requires
unreachable-requires c =
    let here = found c.deref.result.now c.self.inside.summary.items 13 c.deref-2.result.now c.self.inside.metadata_indexes.items c.args.i c.content_at.result.now c.deref.ensures.value c.deref-2.ensures.value c.self.invariant.6 c.content_at.ensures in
    let s = here.layout.metadata_index refl in c.in-Err.ensures.none (record { offset = s.0; size = s.1; name = s.2 }) s.3.layout
