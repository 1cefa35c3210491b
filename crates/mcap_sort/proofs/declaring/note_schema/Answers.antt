use Rattle.std.proofs.Common.{refl}
use Rattle.rec_data.specs.Parsed.{schema_fields}
use Rattle.rec_data.proofs.OwnedReading.{schema_refused}
use Rattle.mcap_model.specs.Made.{top}
use Rattle.mcap_model.proofs.ShownMessages.{ok_then}
use Rattle.mcap_sort.proofs.Declared.{notes_absurd, schema_noted}
use Rattle.mcap_sort.proofs.declaring.note_schema.Goals as goal

pub returns-in-Ok : goal.returns-in-Ok
returns-in-Ok c =
    let r = c.in-Ok.schema in
    ok_then c.note.result c.note.ensures (λ notes. schema_noted c.args.tables.now _ c.args.content.now r.id (schema_fields r) c.in-Ok.ensures.shown notes refl)

pub returns-in-Err : goal.returns-in-Err
returns-in-Err c = notes_absurd c.args.tables.now c.args.tables.now (top 3 c.args.content.now) refl (schema_refused c.args.content.now c.in-Err.ensures.none)
