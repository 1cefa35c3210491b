use Rattle.std.proofs.Common.{List}
use Rattle.mcap_merge.specs.Inputs.{HoldInputs}
use Rattle.mcap_merge.specs.ReadInputs.{Read, read_tops}
use Rattle.mcap_merge.specs.Schemas.{AreBare}
use Rattle.mcap_merge.proofs.SeenSchemas.{SchemasSeen}
use Rattle.mcap_merge.proofs.schemas.see_schemas.Given as goal

abbrev pub invariant-channels : goal.invariant-channels
invariant-channels l = AreBare l.table × ((reads : List Read) → HoldInputs reads l.inputs → SchemasSeen (read_tops reads) l.place l.table.schemas)
