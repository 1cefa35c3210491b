use Rattle.rec_data.specs.Parsed.{schema_fields}
use Rattle.rec_data.proofs.OwnedReading.{schema_refused}
use Rattle.mcap_sort.proofs.Puts.{schema_zero, schema_missing, schema_put, schema_absurd}
use Rattle.mcap_sort.proofs.putting.put_schema.Goals as goal

pub returns-then-id-eq0-clause-takes : goal.returns-then-id-eq0-clause-takes
returns-then-id-eq0-clause-takes g c = schema_zero g.L.LiveStore.state c.args.k.now c.args.schemas.now c.args.id c.if-id-eq0.true

pub returns-in-None-clause-takes : goal.returns-in-None-clause-takes
returns-in-None-clause-takes g c = schema_missing g.L.LiveStore.state c.args.k.now c.args.schemas.now c.args.id c.in-None.ensures

pub keep_schema-requires-clause-shown : goal.keep_schema-requires-clause-shown
keep_schema-requires-clause-shown g c = (c.in-Some.content.now, c.in-Ok.ensures.shown)

pub returns-in-Ok-clause-takes : goal.returns-in-Ok-clause-takes
returns-in-Ok-clause-takes g c =
    let r = c.in-Ok.schema in
    schema_put g.L.LiveStore.state c.args.k.now c.keep_schema.new.k c.args.schemas.now c.args.id c.in-Some.content.now r.id (schema_fields r) c.if-id-eq0.false c.in-Some.ensures c.in-Ok.ensures.shown (c.keep_schema.ensures.takes c.in-Some.content.now c.in-Ok.ensures.shown)

pub returns-in-Err-clause-takes : goal.returns-in-Err-clause-takes
returns-in-Err-clause-takes g c = schema_absurd g.L.LiveStore.state c.args.k.now c.args.k.now c.args.schemas.now c.args.id c.in-Some.content.now c.in-Some.ensures (schema_refused c.in-Some.content.now c.in-Err.ensures.none)
