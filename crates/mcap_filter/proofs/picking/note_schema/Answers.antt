use Rattle.std.proofs.Common.{refl}
use Rattle.rec_data.specs.Parsed.{schema_fields}
use Rattle.mcap_model.specs.declared.ends.Stop.TheVariants as stops
use Rattle.mcap_filter.proofs.Choosing.{schema_noted, schema_stopped}
use Rattle.record_keeping.proofs.Keepings.{keeps_same}
use Rattle.mcap_filter.proofs.picking.note_schema.Goals as goal

pub returns-in-Ok-clause-takes : goal.returns-in-Ok-clause-takes
returns-in-Ok-clause-takes g c = λ a frame.
    let r = c.args.schema.now in
    schema_noted g.L.LiveStore.state a c.args.k.now c.args.choices.now _ frame c.args.content.now r.id (schema_fields r) c.requires.going c.requires.shown c.in-Ok.ensures refl refl

pub returns-in-Err-clause-takes : goal.returns-in-Err-clause-takes
returns-in-Err-clause-takes g c = λ a frame.
    let r = c.args.schema.now in
    schema_stopped g.L.LiveStore.state a c.args.k.now _ c.args.choices.now _ frame c.args.content.now r.id (schema_fields r) stops.Memory c.requires.shown c.stop_for_memory.ensures.gathers c.stop_for_memory.ensures.stopped.phase

pub returns-in-Ok-clause-keeps : goal.returns-in-Ok-clause-keeps
returns-in-Ok-clause-keeps g c = keeps_same g.L.LiveStore.state c.args.k.now.scribe.store _ refl

pub returns-in-Err-clause-keeps : goal.returns-in-Err-clause-keeps
returns-in-Err-clause-keeps g c = keeps_same g.L.LiveStore.state c.args.k.now.scribe.store _ c.stop_for_memory.ensures.store
