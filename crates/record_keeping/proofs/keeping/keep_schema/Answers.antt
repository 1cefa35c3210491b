use Rattle.std.proofs.Common.{rules, sym, ap, refl, ◌∙◌}
use Rattle.rec_data.specs.Parsed.{schema_fields}
use Rattle.mcap_model.specs.declared.ends.Stop.TheVariants as stops
use Rattle.mcap_model.specs.History.{schema_of}
use Rattle.record_keeping.specs.Keeping.{is_declared}
use Rattle.record_keeping.proofs.Keepings.{from_none, going_apart, not_so, so, keeps_same}
use Rattle.record_keeping.proofs.Inners.{schema_framed, schema_put, schema_left}
use Rattle.record_keeping.proofs.keeping.keep_schema.Goals as goal

pub returns-in-Ok-false-clause-takes : goal.returns-in-Ok-false-clause-takes
returns-in-Ok-false-clause-takes g c = λ content shown.
    let r = c.args.schema.now in
    schema_left g.L.LiveStore.state c.args.k.now _ content r.id (schema_fields r) shown c.requires.going
    (so (is_declared c.args.k.now.schemas.keys r.id) (sym c.in-Ok-false.field-0-test ∙ c.in-Ok-false.ensures.first)) refl c.in-Ok-false.ensures.keys refl refl refl refl

pub returns-in-Err-clause-takes : goal.returns-in-Err-clause-takes
returns-in-Err-clause-takes g c = λ content shown.
    let r = c.args.schema.now in
    schema_put g.L.LiveStore.state c.args.k.now _ content r.id (schema_fields r) shown c.requires.going c.in-Err.ensures.lacks (c.stop_for_memory.ensures.grows (schema_of r.id (schema_fields r)))
    (λ going. absurd (going_apart c.stop_for_memory.new.self.plan.phase stops.Memory c.stop_for_memory.ensures.stopped.phase going))

pub returns-in-Err-frame-clause-takes : goal.returns-in-Err-frame-clause-takes
returns-in-Err-frame-clause-takes g c = λ content shown.
    let r = c.args.schema.now in
    schema_put g.L.LiveStore.state c.args.k.now _ content r.id (schema_fields r) shown c.requires.going
    (not_so (is_declared c.args.k.now.schemas.keys r.id) (sym c.in-Ok-true.field-0-test ∙ c.in-Ok-true.ensures.first)) (c.stop_for_memory-in-Err-frame.ensures.grows (schema_of r.id (schema_fields r)))
    (λ going. absurd (going_apart c.stop_for_memory-in-Err-frame.new.self.plan.phase stops.Memory c.stop_for_memory-in-Err-frame.ensures.stopped.phase going))

pub frame-requires-clause-name_fits : goal.frame-requires-clause-name_fits
frame-requires-clause-name_fits g c = let (content, shown) = c.requires.shown in search rules

pub frame-requires-clause-encoding_fits : goal.frame-requires-clause-encoding_fits
frame-requires-clause-encoding_fits g c = let (content, shown) = c.requires.shown in search rules

pub frame-requires-clause-payload_fits : goal.frame-requires-clause-payload_fits
frame-requires-clause-payload_fits g c = let (content, shown) = c.requires.shown in search rules

pub put-requires-clause-framed : goal.put-requires-clause-framed
put-requires-clause-framed g c =
    let r = c.args.schema.now in
    let (content, shown) = c.requires.shown in
    let framed = schema_framed c.as_slice.result.now content r.id (schema_fields r) (c.as_slice.ensures.value ∙ from_none c.new-bytes.ensures.items c.in-Ok.ensures.ok) shown in
    (schema_of r.id (schema_fields r), record { framed = framed; inner = refl })

pub returns-clause-takes : goal.returns-clause-takes
returns-clause-takes g c = λ content shown.
    let r = c.args.schema.now in
    let framed = schema_framed c.as_slice.result.now content r.id (schema_fields r) (c.as_slice.ensures.value ∙ from_none c.new-bytes.ensures.items c.in-Ok.ensures.ok) shown in
    let (schemas, channels, messages, others) = c.put.ensures.same in
    schema_put g.L.LiveStore.state c.args.k.now c.put.new.k content r.id (schema_fields r) shown c.requires.going
    (not_so (is_declared c.args.k.now.schemas.keys r.id) (sym c.in-Ok-true.field-0-test ∙ c.in-Ok-true.ensures.first))
    (c.put.ensures.grows (schema_of r.id (schema_fields r)) framed)
    (λ going. (ap (λ v. v.keys) schemas ∙ c.in-Ok-true.ensures.keys, ap (λ v. v.keys) channels, messages, others, c.put.ensures.counts going))

pub returns-in-Ok-false-clause-keeps : goal.returns-in-Ok-false-clause-keeps
returns-in-Ok-false-clause-keeps g c = keeps_same g.L.LiveStore.state c.args.k.now.scribe.store _ refl

pub returns-in-Err-clause-keeps : goal.returns-in-Err-clause-keeps
returns-in-Err-clause-keeps g c = keeps_same g.L.LiveStore.state c.args.k.now.scribe.store _ c.stop_for_memory.ensures.store

pub returns-in-Err-frame-clause-keeps : goal.returns-in-Err-frame-clause-keeps
returns-in-Err-frame-clause-keeps g c = keeps_same g.L.LiveStore.state c.args.k.now.scribe.store _ c.stop_for_memory-in-Err-frame.ensures.store
