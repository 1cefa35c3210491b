use Rattle.std.proofs.Common.{refl, ap, subst}
use Rattle.mcap_model.specs.Made.{top}
use Rattle.mcap_model.specs.Places.{At}
use Rattle.summary_read.proofs.Holding.{slices_inside, found}
use Rattle.summary_read.proofs.loaded.Loaded.channel.Goals as goal

pub content_at-requires-clause-inside : goal.content_at-requires-clause-inside
content_at-requires-clause-inside c =
    slices_inside c.deref.result.now c.self.inside.summary.items 4 c.deref-2.result.now c.self.inside.channels.items c.deref.ensures.value c.deref-2.ensures.value c.self.invariant.3

pub returns-in-Ok : goal.returns-in-Ok
returns-in-Ok c =
    let here = found c.deref.result.now c.self.inside.summary.items 4 c.deref-2.result.now c.self.inside.channels.items c.args.i c.content_at.result.now c.deref.ensures.value c.deref-2.ensures.value c.self.invariant.3 c.content_at.ensures in
    (top 4 c.content_at.result.now, subst (λ l. At l c.args.i (top 4 c.content_at.result.now)) (ap (λ p. p.channels) c.self.view_is) here.at, record { kind = refl; layout = c.in-Ok.ensures.shown })

pub unreachable-requires : goal.unreachable-requires
unreachable-requires c =
    let here = found c.deref.result.now c.self.inside.summary.items 4 c.deref-2.result.now c.self.inside.channels.items c.args.i c.content_at.result.now c.deref.ensures.value c.deref-2.ensures.value c.self.invariant.3 c.content_at.ensures in
    let s = here.layout.channel refl in c.in-Err.ensures.none s.0 s.1 s.2.layout
