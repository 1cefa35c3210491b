use Rattle.std.proofs.Common.{Option, refl, sym, subst}
use Rattle.rec_data.specs.declared.schema.SchemaDef.{SchemaDef}
use Rattle.mcap_merge.specs.Schemas.{EntersOf}
use Rattle.mcap_merge.proofs.SeenSchemas.{lacks_place_of}
use Rattle.mcap_merge.proofs.schemas.enter_of.Goals as goal

pub returns-in-Ok-enter_schema-clause-entered : goal.returns-in-Ok-enter_schema-clause-entered
returns-in-Ok-enter_schema-clause-entered c = λ records are.
    (c.in-Ok.content, c.in-Ok.ensures.is records are, subst (λ (o : Option SchemaDef). EntersOf c.args.table.now.schemas o c.enter_schema.new.table.schemas) (sym c.in-Some.is) c.in-Ok-enter_schema.ensures.entered)

pub returns-in-Err-enter_schema-clause-refused : goal.returns-in-Err-enter_schema-clause-refused
returns-in-Err-enter_schema-clause-refused c = λ records are.
    lacks_place_of records c.args.source c.args.table.now.schemas c.in-Ok.content c.in-Some.schema c.in-Err-enter_schema.refused (c.in-Ok.ensures.is records are) c.in-Some.is c.in-Err-enter_schema.ensures.refused

pub returns-in-None-clause-entered : goal.returns-in-None-clause-entered
returns-in-None-clause-entered c = λ records are.
    (c.in-Ok.content, c.in-Ok.ensures.is records are, subst (λ (o : Option SchemaDef). EntersOf c.args.table.now.schemas o c.args.table.now.schemas) (sym c.in-None.is) refl)
