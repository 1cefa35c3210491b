use Rattle.std.proofs.Common.{Option, sym, subst}
use Rattle.rec_data.specs.declared.schema.SchemaDef.{SchemaDef}
use Rattle.mcap_merge.specs.Contents.{SchemaFitsUnder}
use Rattle.mcap_merge.proofs.ReadBack.{records_back}
use Rattle.mcap_merge.proofs.joining.see_fields.Goals as goal

pub returns-in-Some : goal.returns-in-Some
returns-in-Some c =
    let schema = c.id_of-schema_id.result in
    records_back (record { content = c.args.content.now; ids = c.args.ids.now }) c.number_of-id.result schema c.number_of-id.ensures c.id_of-schema_id.ensures c.see_channel.ensures
    (subst (λ (s : Option SchemaDef). SchemaFitsUnder s schema) (sym c.in-Some.is) c.see_schema.ensures)

pub returns-in-None : goal.returns-in-None
returns-in-None c =
    let schema = c.id_of-schema_id.result in
    records_back (record { content = c.args.content.now; ids = c.args.ids.now }) c.number_of-id.result schema c.number_of-id.ensures c.id_of-schema_id.ensures c.see_channel.ensures
    (subst (λ (s : Option SchemaDef). SchemaFitsUnder s schema) (sym c.in-None.is) tt)
