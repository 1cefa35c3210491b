-- The Channel was put behind its Schema.
use Rattle.std.proofs.Common.{inl, inr, refl}
use Rattle.rec_data.specs.Parsed.{channel_fields}
use Rattle.record_keeping.proofs.Keepings.{keeps_same}
use Rattle.mcap_filter.proofs.needs.put_channel.Goals as goal

pub returns-in-Ok-clause-takes : goal.returns-in-Ok-clause-takes
returns-in-Ok-clause-takes g c =
    let content = c.args.content.now in
    let r = c.in-Ok.channel in
    inr (inl (record { id = r.id; fields = channel_fields r; shown = c.in-Ok.ensures.shown; puts = c.put_needs.ensures.takes content c.in-Ok.ensures.shown }))

pub returns-then-contains-clause-keeps : goal.returns-then-contains-clause-keeps
returns-then-contains-clause-keeps g c = keeps_same g.L.LiveStore.state c.args.k.now.scribe.store _ refl

pub returns-in-Err-clause-keeps : goal.returns-in-Err-clause-keeps
returns-in-Err-clause-keeps g c = keeps_same g.L.LiveStore.state c.args.k.now.scribe.store _ refl
