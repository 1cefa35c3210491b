use Rattle.std.proofs.Common.{refl, ap, subst, ◌∙◌}
use Rattle.mcap_model.specs.Made.{top}
use Rattle.mcap_model.specs.Places.{At}
use Rattle.rec_data.specs.Parsed.{schema_fields}
use Rattle.mcap_model.proofs.Maps.{schema_id}
use Rattle.summary_read.proofs.Holding.{slices_inside, found}
use Rattle.summary_read.proofs.loaded.Loaded.schema.Goals as goal

pub content_at-requires-clause-inside : goal.content_at-requires-clause-inside
content_at-requires-clause-inside c =
    slices_inside c.deref.result.now c.self.inside.summary.items 3 c.deref-2.result.now c.self.inside.schemas.items c.deref.ensures.value c.deref-2.ensures.value c.self.invariant.2

pub returns-in-Ok : goal.returns-in-Ok
returns-in-Ok c =
    let here = found c.deref.result.now c.self.inside.summary.items 3 c.deref-2.result.now c.self.inside.schemas.items c.args.i c.content_at.result.now c.deref.ensures.value c.deref-2.ensures.value c.self.invariant.2 c.content_at.ensures in
    (top 3 c.content_at.result.now, subst (λ l. At l c.args.i (top 3 c.content_at.result.now)) (ap (λ p. p.schemas) c.self.view_is) here.at, (let s = here.layout.schema refl in record { kind = refl; layout = c.in-Ok.ensures.shown; some = λ zero. s.2.some (schema_id c.content_at.result.now s.0 c.in-Ok.parsed.id s.1 (schema_fields c.in-Ok.parsed) s.2 c.in-Ok.ensures.shown ∙ zero) }))

pub unreachable-requires : goal.unreachable-requires
unreachable-requires c =
    let here = found c.deref.result.now c.self.inside.summary.items 3 c.deref-2.result.now c.self.inside.schemas.items c.args.i c.content_at.result.now c.deref.ensures.value c.deref-2.ensures.value c.self.invariant.2 c.content_at.ensures in
    let s = here.layout.schema refl in c.in-Err.ensures.none s.0 s.1 s.2.layout
