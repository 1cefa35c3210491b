use Rattle.std.proofs.Common.{take}
use Rattle.mcap_model.specs.Fields.{IsSchema}
use Rattle.command_read.specs.Writing.{ShowIds}
use Rattle.command_read.proofs.schemas.schema_ids.Given as goal

abbrev pub invariant-schemas : goal.invariant-schemas
invariant-schemas l = ShowIds IsSchema (take l.i l.loaded.schemas) l.ids.items
