use Rattle.std.proofs.Common.{◌+◌, take, sym, subst}
use Rattle.rec_data.specs.Parsed.{schema_fields}
use Rattle.mcap_model.specs.Fields.{IsSchema}
use Rattle.command_read.specs.Writing.{ShowIds}
use Rattle.command_read.proofs.Shown.{ids_more}
use Rattle.command_read.proofs.schemas.schema_ids.Goals as goal

pub schemas-preserved : goal.schemas-preserved
schemas-preserved c =
    let schemas = c.args.loaded.now.schemas in
    let given = c.schema.ensures in
    subst (ShowIds IsSchema (take (c.schemas.i + 1) schemas)) (sym c.in-Ok.ensures.items)
    (ids_more IsSchema schemas c.schemas.ids.items c.schemas.i given.0 c.schema.result.id (schema_fields c.schema.result) given.1 given.2 c.schemas.invariant)
