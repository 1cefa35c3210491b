use Rattle.std.proofs.Common.{◌≡◌, refl, sym, subst, inl, inr, ◌∙◌, List, ℕ}
use Rattle.std.proofs.lemmas.Bool.{both_ways}
use Rattle.std.proofs.lemmas.Slice.Eq.{bytes_eq-Decides}
use Rattle.mcap_model.specs.Fields.{SchemaFields, IsSchema}
use Rattle.mcap_model.specs.declared.table.Declared.{Declared}
use Rattle.mcap_model.specs.declared.tables.Tables.{Tables}
use Rattle.rec_data.specs.Parsed.{schema_fields}
use Rattle.mcap_model.specs.Made.{top}
use Rattle.mcap_model.proofs.Meets.{schema_meets}
use Rattle.mcap_model.proofs.Maps.{schema_once, schema_id}
use Rattle.mcap_model.proofs.Agreeing.{schema_agrees, schema_new_agrees, schema_apart, schema_again, schema_new, but_metadata}
use Rattle.mcap_model.proofs.tables.Tables.take_schema.Goals as goal

pub returns-in-Err : goal.returns-in-Err
returns-in-Err c = λ records was. inl (refl, λ v6. let s = v6.schema refl in c.in-Err.ensures.none s.0 s.1 s.2.layout)

pub returns-then-schema-eq0 : goal.returns-then-schema-eq0
returns-then-schema-eq0 c = λ records was. inl (
  refl,
  λ v6.
      let s = v6.schema refl in
      let is = s.2 in
      is.some (schema_id c.args.content.now s.0 c.in-Ok.schema.id s.1 _ is c.in-Ok.ensures.shown ∙ c.if-schema-eq0.true),
)

pub returns-then-eq : goal.returns-then-eq
returns-then-eq c = λ records was.
    let s = c.in-Ok.schema in
    let t = top 3 c.args.content.now in
    let f = schema_fields s in
    let is : IsSchema t s.id f = record { kind = refl; layout = c.in-Ok.ensures.shown; some = c.if-schema-eq0.false } in
    let found = c.in-Some.ensures in
    let d = found.1 in
    let same = λ (i : ℕ) (h : SchemaFields) (shown : IsSchema (top 3 d.content) i h).
    (schema_once t i s.id h f (subst (λ (l : List ℕ). IsSchema (top 3 l) i h) (found.4 ∙ equal_contents) shown) is).1 in
    (schema_meets t s.id f is, schema_agrees records c.args.self.now.schemas t s.id f found.0 d was.schemas found.2 found.3 is same, schema_again records c.args.self.now t s.id f found.0 d was found.2 found.3 is same)
  where
    equal_contents : c.in-Some.first.now ≡ c.args.content.now
    equal_contents = (bytes_eq-Decides c.in-Some.first.now c.args.content.now).0 (sym c.eq.ensures ∙ c.if-eq.true)

pub returns-then-is_same_schema : goal.returns-then-is_same_schema
returns-then-is_same_schema c = λ records was.
    let s = c.in-Ok.schema in
    let t = top 3 c.args.content.now in
    let f = schema_fields s in
    let is : IsSchema t s.id f = record { kind = refl; layout = c.in-Ok.ensures.shown; some = c.if-schema-eq0.false } in
    let found = c.in-Some.ensures in
    let d = found.1 in
    let same = λ (i : ℕ) (h : SchemaFields) (shown : IsSchema (top 3 d.content) i h).
    (c.is_same_schema.ensures i h (subst (λ (l : List ℕ). IsSchema (top 3 l) i h) found.4 shown)).0 c.if-is_same_schema.true in
    (schema_meets t s.id f is, schema_agrees records c.args.self.now.schemas t s.id f found.0 d was.schemas found.2 found.3 is same, schema_again records c.args.self.now t s.id f found.0 d was found.2 found.3 is same)

pub returns-in-Some : goal.returns-in-Some
returns-in-Some c = λ records was.
    let s = c.in-Ok.schema in
    let t = top 3 c.args.content.now in
    let f = schema_fields s in
    let is : IsSchema t s.id f = record { kind = refl; layout = c.in-Ok.ensures.shown; some = c.if-schema-eq0.false } in
    let found = c.in-Some.ensures in
    let d = found.1 in
    let other = λ (i : ℕ) (h : SchemaFields) (shown : IsSchema (top 3 d.content) i h) (same : h ≡ f).
    both_ways c.is_same_schema.result c.if-is_same_schema.false ((c.is_same_schema.ensures i h (subst (λ (l : List ℕ). IsSchema (top 3 l) i h) found.4 shown)).1 same) in
    inr (refl, schema_meets t s.id f is, schema_apart records c.args.self.now.schemas t s.id f found.0 d was.schemas found.2 found.3 is other)

pub returns-in-Ok-add : goal.returns-in-Ok-add
returns-in-Ok-add c = λ records was.
    let s = c.in-Ok.schema in
    let t = top 3 c.args.content.now in
    let f = schema_fields s in
    let is : IsSchema t s.id f = record { kind = refl; layout = c.in-Ok.ensures.shown; some = c.if-schema-eq0.false } in
    let d : Declared = record { id = s.id; content = c.args.content.now } in
    let new : Tables = record { schemas = c.add.new.self; channels = c.args.self.now.channels } in
    (schema_meets t s.id f is, schema_new_agrees records c.args.self.now.schemas t s.id f was.schemas is c.in-None.ensures, schema_new records c.args.self.now new d f was c.in-Ok-add.ensures.ok refl is c.in-None.ensures)

pub returns-in-Err-add : goal.returns-in-Err-add
returns-in-Err-add c = λ records was.
    let s = c.in-Ok.schema in
    let t = top 3 c.args.content.now in
    let f = schema_fields s in
    let is : IsSchema t s.id f = record { kind = refl; layout = c.in-Ok.ensures.shown; some = c.if-schema-eq0.false } in
    (schema_meets t s.id f is, but_metadata records t (schema_new_agrees records c.args.self.now.schemas t s.id f was.schemas is c.in-None.ensures))
