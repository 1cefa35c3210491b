use Rattle.std.proofs.Common.{refl, ◌∙◌}
use Rattle.rec_data.specs.Parsed.{schema_fields}
use Rattle.mcap_model.proofs.Maps.{schema_id}
use Rattle.summary_read.proofs.Answered.{yes, no}
use Rattle.summary_read.proofs.records.is_schema.Goals as goal

pub returns-then-schema-eq0 : goal.returns-then-schema-eq0
returns-then-schema-eq0 c =
    let unset = c.if-schema-eq0.true in
    no (λ is. is.2.some (schema_id c.args.content.now is.0 c.in-Ok.schema.id is.1 (schema_fields c.in-Ok.schema) is.2 c.in-Ok.ensures.shown ∙ unset))

pub returns-in-Ok : goal.returns-in-Ok
returns-in-Ok c = yes (c.in-Ok.schema.id, schema_fields c.in-Ok.schema, record { kind = refl; layout = c.in-Ok.ensures.shown; some = c.if-schema-eq0.false })

pub returns-in-Err : goal.returns-in-Err
returns-in-Err c = no (λ is. c.in-Err.ensures.none is.0 is.1 is.2.layout)
