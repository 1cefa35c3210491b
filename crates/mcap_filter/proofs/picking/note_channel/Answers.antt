use Rattle.std.proofs.Common.{refl}
use Rattle.rec_data.specs.Parsed.{channel_fields}
use Rattle.mcap_model.specs.Plain.{asked_topic}
use Rattle.mcap_model.specs.declared.ends.Stop.TheVariants as stops
use Rattle.mcap_filter.specs.Picked.{asking}
use Rattle.mcap_filter.proofs.Choosing.{channel_noted, channel_stopped}
use Rattle.record_keeping.proofs.Keepings.{keeps_same}
use Rattle.mcap_filter.proofs.picking.note_channel.Goals as goal

pub returns-in-Ok-clause-takes : goal.returns-in-Ok-clause-takes
returns-in-Ok-clause-takes g c = λ range frame.
    let r = c.args.channel.now in
    channel_noted g.L.LiveStore.state (asking range (asked_topic c.args.topic)) c.args.k.now c.args.choices.now _ frame c.args.content.now r.id (channel_fields r) c.requires.going c.requires.shown c.in-Ok.ensures

pub returns-in-Err-clause-takes : goal.returns-in-Err-clause-takes
returns-in-Err-clause-takes g c = λ range frame.
    let r = c.args.channel.now in
    channel_stopped g.L.LiveStore.state (asking range (asked_topic c.args.topic)) c.args.k.now _ c.args.choices.now _ frame c.args.content.now r.id (channel_fields r) stops.Memory c.requires.shown c.stop_for_memory.ensures.gathers c.stop_for_memory.ensures.stopped.phase

pub returns-in-Ok-clause-keeps : goal.returns-in-Ok-clause-keeps
returns-in-Ok-clause-keeps g c = keeps_same g.L.LiveStore.state c.args.k.now.scribe.store _ refl

pub returns-in-Err-clause-keeps : goal.returns-in-Err-clause-keeps
returns-in-Err-clause-keeps g c = keeps_same g.L.LiveStore.state c.args.k.now.scribe.store _ c.stop_for_memory.ensures.store
