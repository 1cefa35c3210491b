use Rattle.std.specs.Prelude.{Option}
use Rattle.std.proofs.Common.{sym, subst}
use Rattle.rec_data.specs.declared.schema.SchemaDef.{SchemaDef}
use Rattle.history_ids.specs.FeedContents.{SchemaShown}
use Rattle.history_ids.proofs.Definitions.{shows_def}
use Rattle.history_ids.proofs.describing.schema_of.Goals as goal

pub returns-in-Ok-copied-clause-shows : goal.returns-in-Ok-copied-clause-shows
returns-in-Ok-copied-clause-shows c = λ records are kept.
    let s = c.in-Ok.schema in
    subst (λ (o : Option SchemaDef). SchemaShown records c.args.id o) (sym c.in-Ok-copied.ensures)
    (shows_def records c.args.tables.now c.args.id s.id c.in-Some.content.now s.name.now s.encoding.now s.payload.now are c.in-Some.ensures c.in-Ok.ensures.shown)
