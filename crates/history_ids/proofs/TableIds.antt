-- The ids that a table gives are those of the history's contents.
use Rattle.std.proofs.Common.{◌≡◌, ℕ, ◌+◌, ◌-◌, ◌<◌, List, length, Option, Some, None, refl, sym, ap, subst, ◌∙◌, arith}
use Rattle.std.specs.Prelude.{map}
use Rattle.rec_data.specs.declared.schema.SchemaDef.{SchemaDef}
use Rattle.rec_data.specs.declared.channel.ChannelDef.{ChannelDef}
use Rattle.mcap_model.specs.Places.{At}
use Rattle.mcap_model.specs.Fields.{SchemaFields, ChannelFields}
use Rattle.mcap_model.proofs.Places.{at_within, at_one}
use Rattle.id_table.specs.Ids as tables
use Rattle.id_table.specs.Given.{Lacks, EachOnce, Found, SharesSchema}
use Rattle.history_ids.specs.Ids.{same_schema, same_channel, fields_of_channel, schema_place, id_at, schema_id, channel_place}
use Rattle.history_ids.specs.DeclarationFields.{fields_of_schema}
use Rattle.history_ids.specs.Tables.{content_in, ids_in, SchemaHasId, HasSchemas, IsIdAt, IsSchemaAt, HasSchemaOf}
use Rattle.history_ids.proofs.Places.{at_map, map_at}
use Rattle.history_ids.proofs.Searches.{found, not_found, schema_own, schema_same, channel_own, channel_same}

pub some_none : (k : ℕ) → Some k ≡ None → ⊥
some_none k e = cc

-- ---- schemas

abbrev def_of : SchemaFields → SchemaDef
def_of f = record { name = f.name; encoding = f.encoding; payload = f.payload }

schema_back : (s t : SchemaDef) → fields_of_schema s ≡ fields_of_schema t → s ≡ t
schema_back s t e = ap def_of e

-- where a schema's content is found, the schema stands
pub schema_stands : (t : tables.IdContents) (s : SchemaDef) (k : ℕ) → schema_place (ids_in t) s ≡ Some k → At t.schemas k s
schema_stands t s k e =
    let there = found (same_schema (fields_of_schema s)) (map fields_of_schema t.schemas) k e in
    let (x, at, same) = map_at fields_of_schema t.schemas k there.element there.at in
    let is : s ≡ x = schema_back s x (schema_same (fields_of_schema s) there.element there.passes ∙ sym same) in
    subst (At t.schemas k) (sym is) at

-- and a schema that stands is found
pub schema_missed : (t : tables.IdContents) (s : SchemaDef) → schema_place (ids_in t) s ≡ None → Lacks t.schemas s
schema_missed t s e n at = not_found (same_schema (fields_of_schema s)) (map fields_of_schema t.schemas) e n (fields_of_schema s) (at_map fields_of_schema t.schemas n s at) (schema_own (fields_of_schema s))

pub schema_lacking : (t : tables.IdContents) (s : SchemaDef) (place : Option ℕ) → schema_place (ids_in t) s ≡ place → Lacks t.schemas s → place ≡ None
schema_lacking t s None e lacks = refl
schema_lacking t s (Some k) e lacks = absurd (lacks k (schema_stands t s k e))

pub schema_found : (t : tables.IdContents) (s : SchemaDef) (n : ℕ) (place : Option ℕ) → schema_place (ids_in t) s ≡ place → At t.schemas n s → (k : ℕ) × (place ≡ Some k) × At t.schemas k s
schema_found t s n None e at = absurd (schema_missed t s e n at)
schema_found t s n (Some k) e at = (k, refl, schema_stands t s k e)

-- ---- equal ids are equal schemas

known_below : (t : tables.IdContents) (s : SchemaDef) (k : ℕ) → At t.schemas k s → k < length (map fields_of_schema t.schemas)
known_below t s k at = at_within (map fields_of_schema t.schemas) k (fields_of_schema s) (at_map fields_of_schema t.schemas k s at)

one_schema : (t : tables.IdContents) (s other : SchemaDef) (k : ℕ) (place : Option ℕ) → At t.schemas k other → schema_place (ids_in t) s ≡ place
    → id_at place (length (map fields_of_schema t.schemas)) ≡ k + 1 → s ≡ other
one_schema t s other k (Some j) at e same =
    let is : j ≡ k = omega (arith, same) in
    at_one t.schemas k s other (subst (λ (n : ℕ). At t.schemas n s) is (schema_stands t s j e)) at
one_schema t s other k None at e same = absurd (omega (arith, same, known_below t other k at))

id_some : (place : Option ℕ) (count : ℕ) → id_at place count ≡ 0 → ⊥
id_some (Some k) count e = omega (arith, e)
id_some None count e = omega (arith, e)

same_schemas : (t : tables.IdContents) (one other : Option SchemaDef) → SchemaHasId t.schemas other → schema_id (ids_in t) one ≡ schema_id (ids_in t) other → one ≡ other
same_schemas t None None has e = refl
same_schemas t None (Some s) has e = absurd (id_some (schema_place (ids_in t) s) (length (map fields_of_schema t.schemas)) (sym e))
same_schemas t (Some s) None has e = absurd (id_some (schema_place (ids_in t) s) (length (map fields_of_schema t.schemas)) e)
same_schemas t (Some s) (Some other) has e =
    let (k, is, at) = schema_found t other has.0 (schema_place (ids_in t) other) refl has.1 in
    let id : id_at (schema_place (ids_in t) s) (length (map fields_of_schema t.schemas)) ≡ k + 1 = e ∙ ap (λ (o : Option ℕ). id_at o (length (map fields_of_schema t.schemas))) is in
    ap {B = Option SchemaDef} Some (one_schema t s other k (schema_place (ids_in t) s) at refl id)

-- ---- channels

abbrev channel_def : ChannelFields → Option SchemaDef → ChannelDef
channel_def f schema = record { topic = f.topic; message_encoding = f.encoding; metadata = f.metadata; schema = schema }

channel_back : (t : tables.IdContents) (c d : ChannelDef) → SchemaHasId t.schemas d.schema → fields_of_channel (ids_in t) c ≡ fields_of_channel (ids_in t) d → c ≡ d
channel_back t c d has e =
    let schema : c.schema ≡ d.schema = same_schemas t c.schema d.schema has (ap (λ (f : ChannelFields). f.schema) e) in
    ap (λ (f : ChannelFields). channel_def f c.schema) e ∙ ap (λ (o : Option SchemaDef). channel_def (fields_of_channel (ids_in t) d) o) schema

abbrev contents : tables.IdContents → List ChannelFields
contents t = map (content_in (map fields_of_schema t.schemas)) t.channels

channel_stands : (t : tables.IdContents) (c : ChannelDef) (k : ℕ) → HasSchemas t → channel_place (ids_in t) c ≡ Some k → At t.channels k c
channel_stands t c k has e =
    let f = fields_of_channel (ids_in t) c in
    let there = found (same_channel f) (contents t) k e in
    let (d, at, same) = map_at (content_in (map fields_of_schema t.schemas)) t.channels k there.element there.at in
    let is : c ≡ d = channel_back t c d (has k d at) (channel_same f there.element there.passes ∙ sym same) in
    subst (At t.channels k) (sym is) at

pub channel_missed : (t : tables.IdContents) (c : ChannelDef) → channel_place (ids_in t) c ≡ None → Lacks t.channels c
channel_missed t c e n at =
    let f = fields_of_channel (ids_in t) c in
    not_found (same_channel f) (contents t) e n f (at_map (content_in (map fields_of_schema t.schemas)) t.channels n c at) (channel_own f)

-- what is found in the table
id_by : (t : tables.IdContents) (c : ChannelDef) (place id : Option ℕ) → HasSchemas t → EachOnce t.channels → channel_place (ids_in t) c ≡ place → Found t.channels c id → IsIdAt place id
id_by t c None None has once e is = tt
id_by t c None (Some id) has once e is = channel_missed t c e (id - 1) is.1
id_by t c (Some k) None has once e is = is k (channel_stands t c k has e)
id_by t c (Some k) (Some id) has once e is =
    let same : k ≡ id - 1 = once k (id - 1) c (channel_stands t c k has e) is.1 in
    omega (arith, same, is.0)

pub id_found : (t : tables.IdContents) (c : ChannelDef) (id : Option ℕ) → HasSchemas t → EachOnce t.channels → Found t.channels c id → IsIdAt (channel_place (ids_in t) c) id
id_found t c id has once is = id_by t c (channel_place (ids_in t) c) id has once refl is

-- ---- a schema that another channel has

schema_under : (t : tables.IdContents) (one schema : Option SchemaDef) → SchemaHasId t.schemas one → IsSchemaAt (ids_in t) (schema_id (ids_in t) one) schema → one ≡ schema
schema_under t None None has is = refl
schema_under t None (Some s) has is = absurd (omega (arith, is.0))
schema_under t (Some x) None has is = absurd (id_some (schema_place (ids_in t) x) (length (map fields_of_schema t.schemas)) is)
schema_under t (Some x) (Some s) has is =
    let (k, place, at) = schema_found t x has.0 (schema_place (ids_in t) x) refl has.1 in
    let id : schema_id (ids_in t) (Some x) ≡ k + 1 = ap (λ (o : Option ℕ). id_at o (length (map fields_of_schema t.schemas))) place in
    let (y, there, same) = map_at fields_of_schema t.schemas (schema_id (ids_in t) (Some x) - 1) (fields_of_schema s) is.1 in
    let here : schema_id (ids_in t) (Some x) - 1 ≡ k = omega (arith, id) in
    let one : x ≡ y = at_one t.schemas k x y at (subst (λ (n : ℕ). At t.schemas n y) here there) in
    ap {B = Option SchemaDef} Some (one ∙ schema_back y s same)

pub shares : (t : tables.IdContents) (schema : Option SchemaDef) (like : ℕ) → HasSchemas t → HasSchemaOf (ids_in t) schema like → SharesSchema t schema like
shares t schema like has it =
    let (c, at, same) = map_at (content_in (map fields_of_schema t.schemas)) t.channels (like - 1) it.content it.there in
    record {
      channel = c;
      has_id = (it.some, at);
      same = schema_under t c.schema schema (has (like - 1) c at) (subst (λ (f : ChannelFields). IsSchemaAt (ids_in t) f.schema schema) (sym same) it.schema_is);
    }
