use Rattle.std.proofs.Common.{refl, ap, subst}
use Rattle.mcap_model.specs.Made.{top}
use Rattle.mcap_model.specs.Places.{At}
use Rattle.summary_read.proofs.Holding.{slices_inside, found}
use Rattle.summary_read.proofs.loaded.Loaded.summary_offset.Goals as goal

pub content_at-requires-clause-inside : goal.content_at-requires-clause-inside
content_at-requires-clause-inside c =
    slices_inside c.deref.result.now c.self.inside.summary.items 14 c.deref-2.result.now c.self.inside.summary_offsets.items c.deref.ensures.value c.deref-2.ensures.value c.self.invariant.7

pub returns-in-Ok : goal.returns-in-Ok
returns-in-Ok c =
    let here = found c.deref.result.now c.self.inside.summary.items 14 c.deref-2.result.now c.self.inside.summary_offsets.items c.args.i c.content_at.result.now c.deref.ensures.value c.deref-2.ensures.value c.self.invariant.7 c.content_at.ensures in
    (top 14 c.content_at.result.now, subst (λ l. At l c.args.i (top 14 c.content_at.result.now)) (ap (λ p. p.summary_offsets) c.self.view_is) here.at, record { kind = refl; layout = c.in-Ok.ensures.shown })

pub unreachable-requires : goal.unreachable-requires
unreachable-requires c =
    let here = found c.deref.result.now c.self.inside.summary.items 14 c.deref-2.result.now c.self.inside.summary_offsets.items c.args.i c.content_at.result.now c.deref.ensures.value c.deref-2.ensures.value c.self.invariant.7 c.content_at.ensures in
    let s = here.layout.summary_offset refl in c.in-Err.ensures.none (record { op = s.0; offset = s.1; size = s.2 }) s.3.layout
