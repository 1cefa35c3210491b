-- Ids that are given by a table, and the records that they come with.
use Rattle.std.proofs.Common.{◌≡◌, ℕ, ◌+◌, ◌≤◌, Bool, true, false, ◌&&◌, List, [], ◌∷◌, ◌++◌, length, Option, Some, None, refl, sym, ap, subst, inl, inr, append-nil, ◌-◌, ◌∙◌, arith}
use Rattle.std.specs.Prelude.{Result, Ok, Err, IfOk, IfErr, OnErr, map, position, nat_lt, nat_le, if◌then◌else◌}
use Rattle.std.proofs.lemmas.Bool.{leb-true, le-leb}
use Rattle.std.proofs.lemmas.List.{length-append, length-map, map-append}
use Rattle.rec_data.specs.declared.owned.Rec.{Rec}
use Rattle.rec_data.specs.declared.schema.SchemaDef.{SchemaDef}
use Rattle.rec_data.specs.declared.channel.ChannelDef.{ChannelDef}
use Rattle.mcap_model.specs.Places.{At}
use Rattle.mcap_model.specs.Fields.{SchemaFields, ChannelFields}
use Rattle.mcap_model.specs.History.{schema_of, channel_of}
use Rattle.mcap_model.proofs.Places.{at_kept, at_last, at_more}
use Rattle.id_table.specs.Ids as tables
use Rattle.id_table.specs.Given.{Lacks, EachOnce, Offers, OffersTo, IsFull, IsFullTo, Declares, RefusesIds, with_given, with_given_to}
use Rattle.id_table.specs.declared.given.Given.{Given}
use Rattle.id_table.specs.declared.given.Given.TheVariants.{Known, New}
use Rattle.id_table.specs.declared.given.GivenIds.{GivenIds}
use Rattle.id_table.specs.declared.given.IdRefused.{IdRefused}
use Rattle.id_table.specs.declared.given.IdRefused.TheVariants.{TooManySchemas, TooManyChannels, Memory}
use Rattle.history_ids.specs.Ids.{Ids, schemas_in, channels_in, with_ids, same_schema, fields_of_channel, schema_place, id_at, schema_id, channel_place, channel_id, new_schema_at, new_schema, new_at, new_records}
use Rattle.history_ids.specs.DeclarationFields.{fields_of_schema, fields_with}
use Rattle.history_ids.specs.Tables.{content_in, ids_in, SchemaHasId, HasSchemas, GivesAt, GivesSchema, GivesIds, schemas_lack, IdsDeclared, id_given, id_of, schema_with, ids_lack}
use Rattle.history_ids.proofs.Places.{map_same, found_more, found_last}
use Rattle.history_ids.proofs.Searches.{schema_own, schemas_more, channels_more}
use Rattle.history_ids.proofs.TableIds.{schema_stands, schema_missed, schema_lacking, schema_found, channel_missed, some_none}

-- ---- the records that are given with ids

record IsAs (given : Option Given) (records : List Rec) (schema : Option SchemaDef) (id : ℕ) : Type 0 where
  pub records_are : schema_with schema given ≡ records
  pub id_is : id_of given ≡ id

given_at : (s : SchemaDef) (place : Option ℕ) (count : ℕ) (g : Given) → GivesAt place count g → IsAs (Some g) (new_schema_at place count s) (Some s) (id_at place count)
given_at s (Some k) count (Known id) e = record { records_are = refl; id_is = e }
given_at s (Some k) count (New id) e = absurd e
given_at s None count (Known id) e = absurd e
given_at s None count (New id) e = record { records_are = ap (λ (i : ℕ). schema_of i (fields_of_schema s) ∷ []) e; id_is = e }

given_schema : (ids : Ids) (schema : Option SchemaDef) (given : Option Given) → GivesSchema ids schema given → IsAs given (new_schema ids schema) schema (schema_id ids schema)
given_schema ids None None e = record { records_are = refl; id_is = refl }
given_schema ids None (Some g) e = absurd e
given_schema ids (Some s) None e = absurd e
given_schema ids (Some s) (Some g) e = given_at s (schema_place ids s) (length ids.schemas) g e

next_given : (place : Option ℕ) (count : ℕ) (g : Given) → place ≡ None → GivesAt place count g → id_given g ≡ count + 1
next_given (Some k) count g none e = absurd (some_none k none)
next_given None count (Known id) none e = absurd e
next_given None count (New id) none e = e

-- the channel's id is the one that it is to get
pub given_id : (ids : Ids) (c : ChannelDef) (given : GivenIds) → channel_place ids c ≡ None → GivesIds ids c given → id_given given.channel ≡ channel_id ids c
given_id ids c given none gives =
    next_given (channel_place ids c) (length ids.channels) given.channel none gives.channel ∙ ap (λ (o : Option ℕ). id_at o (length ids.channels)) (sym none)

-- the records of the ids that are new are those that the declaration adds
pub given_records : (ids : Ids) (c : ChannelDef) (given : GivenIds) → channel_place ids c ≡ None → GivesIds ids c given
    → schema_with c.schema given.schema ++ channel_of (id_given given.channel) (fields_with c (id_of given.schema)) ∷ [] ≡ new_records ids c
given_records ids c given none gives =
    let schema = given_schema ids c.schema given.schema gives.schema in
    let id : id_given given.channel ≡ length ids.channels + 1 = next_given (channel_place ids c) (length ids.channels) given.channel none gives.channel in
    ap (λ (l : List Rec). l ++ channel_of (id_given given.channel) (fields_with c (id_of given.schema)) ∷ []) schema.records_are
    ∙ ap (λ (i : ℕ). new_schema ids c.schema ++ channel_of i (fields_with c (id_of given.schema)) ∷ []) id
    ∙ ap (λ (i : ℕ). new_schema ids c.schema ++ channel_of (length ids.channels + 1) (fields_with c i) ∷ []) schema.id_is
    ∙ ap (λ (o : Option ℕ). new_at o ids c) (sym none)

-- ---- what is offered

offers_at : (t : tables.IdContents) (s : SchemaDef) (place : Option ℕ) (g : Given) → EachOnce t.schemas → schema_place (ids_in t) s ≡ place → Offers t.schemas s g
    → GivesAt place (length (map fields_of_schema t.schemas)) g
offers_at t s (Some k) (Known id) once e is =
    let same = once k (id - 1) s (schema_stands t s k e) is.1 in
    omega (arith, same, is.0)
offers_at t s (Some k) (New id) once e is = is.0 k (schema_stands t s k e)
offers_at t s None (Known id) once e is = schema_missed t s e (id - 1) is.1
offers_at t s None (New id) once e is = omega (arith, is.1, length-map t.schemas fields_of_schema)

offers_schema : (t : tables.IdContents) (schema : Option SchemaDef) (given : Option Given) → EachOnce t.schemas → OffersTo t.schemas schema given → GivesSchema (ids_in t) schema given
offers_schema t None None once is = tt
offers_schema t None (Some g) once is = absurd is
offers_schema t (Some s) None once is = absurd is
offers_schema t (Some s) (Some g) once is = offers_at t s (schema_place (ids_in t) s) g once refl is

abbrev contents : tables.IdContents → List ChannelFields
contents t = map (content_in (map fields_of_schema t.schemas)) t.channels

offers_channel : (t : tables.IdContents) (c : ChannelDef) (place : Option ℕ) (g : Given) → channel_place (ids_in t) c ≡ place → place ≡ None → Offers t.channels c g → GivesAt place (length (contents t)) g
offers_channel t c (Some k) g e none is = absurd (some_none k none)
offers_channel t c None (Known id) e none is = channel_missed t c e (id - 1) is.1
offers_channel t c None (New id) e none is = omega (arith, is.1, length-map t.channels (content_in (map fields_of_schema t.schemas)))

-- ---- the table with the new contents

-- The Schemas with one more, if it is new: those before keep their ids, and the channel's has the id that it was to get.
record Entered (t : tables.IdContents) (schemas : List SchemaDef) (schema : Option SchemaDef) : Type 0 where
  pub fields : map fields_of_schema schemas ≡ map fields_of_schema t.schemas ++ schemas_in (new_schema (ids_in t) schema)
  pub has : SchemaHasId schemas schema
  pub kept : (other : Option SchemaDef) → SchemaHasId t.schemas other → SchemaHasId schemas other
  pub ids : (other : Option SchemaDef) → SchemaHasId t.schemas other → schema_id (ids_in (record t { schemas = schemas })) other ≡ schema_id (ids_in t) other
  pub id : schema_id (ids_in (record t { schemas = schemas })) schema ≡ schema_id (ids_in t) schema

entered_same : (t : tables.IdContents) (schema : Option SchemaDef) → SchemaHasId t.schemas schema → new_schema (ids_in t) schema ≡ [] → Entered t t.schemas schema
entered_same t schema has none = record {
  fields = sym (append-nil (map fields_of_schema t.schemas)) ∙ ap (λ (l : List Rec). map fields_of_schema t.schemas ++ schemas_in l) (sym none);
  has = has;
  kept = λ other is. is;
  ids = λ other is. refl;
  id = refl;
}

module _ (t : tables.IdContents) (s : SchemaDef) (lacks : Lacks t.schemas s) where
  abbrev more : List SchemaDef
  more = t.schemas ++ s ∷ []

  abbrev longer : tables.IdContents
  longer = record t { schemas = more }

  is_new : schema_place (ids_in t) s ≡ None
  is_new = schema_lacking t s (schema_place (ids_in t) s) refl lacks

  kept_schema : (other : Option SchemaDef) → SchemaHasId t.schemas other → SchemaHasId more other
  kept_schema None has = tt
  kept_schema (Some o) (n, at) = (n, at_kept t.schemas (s ∷ []) n o at)

  kept_id : (other : Option SchemaDef) → SchemaHasId t.schemas other → schema_id (ids_in longer) other ≡ schema_id (ids_in t) other
  kept_id None has = refl
  kept_id (Some o) (n, at) =
      let p = same_schema (fields_of_schema o) in
      let (k, is, there) = schema_found t o n (schema_place (ids_in t) o) refl at in
      let later : schema_place (ids_in longer) o ≡ Some k =
      ap (λ (l : List SchemaFields). position p l) (map-append fields_of_schema t.schemas (s ∷ [])) ∙ found_more p (map fields_of_schema t.schemas) (fields_of_schema s ∷ []) k is in
      ap (λ (place : Option ℕ). id_at place (length (map fields_of_schema more))) later ∙ sym (ap (λ (place : Option ℕ). id_at place (length (map fields_of_schema t.schemas))) is)

  new_id : schema_id (ids_in longer) (Some s) ≡ schema_id (ids_in t) (Some s)
  new_id =
      let p = same_schema (fields_of_schema s) in
      let later : schema_place (ids_in longer) s ≡ Some (length (map fields_of_schema t.schemas)) =
      ap (λ (l : List SchemaFields). position p l) (map-append fields_of_schema t.schemas (s ∷ []))
      ∙ found_last p (map fields_of_schema t.schemas) (fields_of_schema s) (schema_own (fields_of_schema s)) is_new in
      ap (λ (place : Option ℕ). id_at place (length (map fields_of_schema more))) later ∙ sym (ap (λ (place : Option ℕ). id_at place (length (map fields_of_schema t.schemas))) is_new)

  entered_new : Entered t more (Some s)
  entered_new = record {
    fields = map-append fields_of_schema t.schemas (s ∷ [])
        ∙ ap (λ (place : Option ℕ). map fields_of_schema t.schemas ++ schemas_in (new_schema_at place (length (map fields_of_schema t.schemas)) s)) (sym is_new);
    has = (length t.schemas, at_last t.schemas s []);
    kept = kept_schema;
    ids = kept_id;
    id = new_id;
  }

known_none : (t : tables.IdContents) (s : SchemaDef) (n : ℕ) → At t.schemas n s → new_schema (ids_in t) (Some s) ≡ []
known_none t s n at =
    let (k, is, there) = schema_found t s n (schema_place (ids_in t) s) refl at in
    ap (λ (place : Option ℕ). new_schema_at place (length (map fields_of_schema t.schemas)) s) is

entered : (t : tables.IdContents) (schema : Option SchemaDef) (given : Option Given) → OffersTo t.schemas schema given → Entered t (with_given_to t.schemas schema given) schema
entered t None None is = entered_same t None tt refl
entered t None (Some g) is = absurd is
entered t (Some s) None is = absurd is
entered t (Some s) (Some (Known id)) is = entered_same t (Some s) (id - 1, is.1) (known_none t s (id - 1) is.1)
entered t (Some s) (Some (New id)) is = entered_new t s is.0

no_channels : (ids : Ids) (schema : Option SchemaDef) → channels_in (new_schema ids schema) ≡ []
no_channels ids None = refl
no_channels ids (Some s) = none_at (schema_place ids s)
  where
    none_at : (place : Option ℕ) → channels_in (new_schema_at place (length ids.schemas) s) ≡ []
    none_at (Some k) = refl
    none_at None = refl

abbrev made : List SchemaFields → List ChannelFields → Ids
made schemas channels = record { schemas = schemas; channels = channels }

made_same : (a b : List SchemaFields) (c d : List ChannelFields) → a ≡ b → c ≡ d → made a c ≡ made b d
made_same a b c d one other = cc

-- the table's ids are those with the records that a new channel adds
ids_after : (t after : tables.IdContents) (c : ChannelDef) → HasSchemas t → channel_place (ids_in t) c ≡ None → Entered t after.schemas c.schema → after.channels ≡ t.channels ++ c ∷ []
    → ids_in after ≡ with_ids (ids_in t) (new_records (ids_in t) c)
ids_after t after c has none is channels =
    let ids = ids_in t in
    let f = fields_of_channel ids c in
    let channel = channel_of (length ids.channels + 1) f in
    let added : new_records ids c ≡ new_schema ids c.schema ++ channel ∷ [] = ap (λ (o : Option ℕ). new_at o ids c) none in
    let schemas_added : schemas_in (new_records ids c) ≡ schemas_in (new_schema ids c.schema) =
    ap schemas_in added ∙ schemas_more (new_schema ids c.schema) (channel ∷ []) ∙ append-nil (schemas_in (new_schema ids c.schema)) in
    let channels_added : channels_in (new_records ids c) ≡ f ∷ [] =
    ap channels_in added ∙ channels_more (new_schema ids c.schema) (channel ∷ []) ∙ ap (λ (l : List ChannelFields). l ++ f ∷ []) (no_channels ids c.schema) in
    let content = content_in (map fields_of_schema after.schemas) in
    let before : map content t.channels ≡ contents t = map_same content (content_in (map fields_of_schema t.schemas)) t.channels (λ n d at. ap (fields_with d) (is.ids d.schema (has n d at))) in
    let new : content c ≡ f = ap (fields_with c) is.id in
    let all : contents after ≡ contents t ++ f ∷ [] =
    ap (map content) channels ∙ map-append content t.channels (c ∷ []) ∙ ap (λ (l : List ChannelFields). l ++ content c ∷ []) before ∙ ap (λ (g : ChannelFields). contents t ++ g ∷ []) new in
    made_same (map fields_of_schema after.schemas) (map fields_of_schema t.schemas ++ schemas_in (new_records ids c)) (contents after) (contents t ++ channels_in (new_records ids c))
    (is.fields ∙ ap (λ (l : List SchemaFields). map fields_of_schema t.schemas ++ l) (sym schemas_added)) (all ∙ ap (λ (l : List ChannelFields). contents t ++ l) (sym channels_added))

schemas_after : (t after : tables.IdContents) (c : ChannelDef) → HasSchemas t → Entered t after.schemas c.schema → after.channels ≡ t.channels ++ c ∷ [] → HasSchemas after
schemas_after t after c has is channels n d at = elim (at_more t.channels c n d (subst (λ (l : List ChannelDef). At l n d) channels at)) [
  | inl before ↦ is.kept d.schema (has n d before)
  | inr (last, same) ↦ subst (λ (x : ChannelDef). SchemaHasId after.schemas x.schema) (sym same) is.has
]

-- ---- when ids are lacking

lacks_at : (t : tables.IdContents) (s : SchemaDef) → IsFull t.schemas s → schemas_lack (ids_in t) (Some s) ≡ true
lacks_at t s (lacks, many) =
    let is = schema_lacking t s (schema_place (ids_in t) s) refl lacks in
    let size = length (map fields_of_schema t.schemas) in
    let full : 65535 ≤ size = omega (arith, many, length-map t.schemas fields_of_schema) in
    ap (λ (place : Option ℕ). nat_lt 0 (length (new_schema_at place size s)) && nat_le 65535 size) is ∙ le-leb 65535 size full

schemas_lacking : (t : tables.IdContents) (schema : Option SchemaDef) → IsFullTo t.schemas schema → schemas_lack (ids_in t) schema ≡ true
schemas_lacking t None is = absurd is
schemas_lacking t (Some s) is = lacks_at t s is

enough_at : (t : tables.IdContents) (s : SchemaDef) (place : Option ℕ) (b : Bool) → schema_place (ids_in t) s ≡ place → nat_le 65535 (length (map fields_of_schema t.schemas)) ≡ b → (IsFull t.schemas s → ⊥)
    → (nat_lt 0 (length (new_schema_at place (length (map fields_of_schema t.schemas)) s)) && nat_le 65535 (length (map fields_of_schema t.schemas))) ≡ false
enough_at t s (Some k) b e is enough = refl
enough_at t s None false e is enough = is
enough_at t s None true e is enough =
    let many = leb-true 65535 (length (map fields_of_schema t.schemas)) is in
    absurd (enough (schema_missed t s e, omega (arith, many, length-map t.schemas fields_of_schema)))

schemas_enough : (t : tables.IdContents) (schema : Option SchemaDef) → (IsFullTo t.schemas schema → ⊥) → schemas_lack (ids_in t) schema ≡ false
schemas_enough t None enough = refl
schemas_enough t (Some s) enough = enough_at t s (schema_place (ids_in t) s) (nat_le 65535 (length (map fields_of_schema t.schemas))) refl refl enough

channels_lacking : (t : tables.IdContents) (c : ChannelDef) → IsFull t.channels c → nat_le 65535 (length (contents t)) ≡ true
channels_lacking t c (lacks, many) = le-leb 65535 (length (contents t)) (omega (arith, many, length-map t.channels (content_in (map fields_of_schema t.schemas))))

channels_enough : (t : tables.IdContents) (c : ChannelDef) (b : Bool) → nat_le 65535 (length (contents t)) ≡ b → channel_place (ids_in t) c ≡ None → (IsFull t.channels c → ⊥) → b ≡ false
channels_enough t c false is none enough = refl
channels_enough t c true is none enough =
    let many = leb-true 65535 (length (contents t)) is in
    absurd (enough (channel_missed t c none, omega (arith, many, length-map t.channels (content_in (map fields_of_schema t.schemas)))))

abbrev lack_by : Bool → Bool → Option IdRefused
lack_by schemas channels = if schemas then Some TooManySchemas else (if channels then Some TooManyChannels else None)

lack_is : (ids : Ids) (c : ChannelDef) (a b : Bool) → schemas_lack ids c.schema ≡ a → nat_le 65535 (length ids.channels) ≡ b → ids_lack ids c ≡ lack_by a b
lack_is ids c a b one other = ap (λ (x : Bool). lack_by x (nat_le 65535 (length ids.channels))) one ∙ ap (lack_by a) other

enough_ids : (t : tables.IdContents) (c : ChannelDef) → channel_place (ids_in t) c ≡ None → (IsFullTo t.schemas c.schema → ⊥) → (IsFull t.channels c → ⊥) → ids_lack (ids_in t) c ≡ None
enough_ids t c none schemas channels =
    lack_is (ids_in t) c false false (schemas_enough t c.schema schemas) (channels_enough t c (nat_le 65535 (length (contents t))) refl none channels)

-- ---- what the table answers

few_left : (t after : tables.IdContents) (schema : Option SchemaDef) (given : Option Given) → OffersTo t.schemas schema given → after.schemas ≡ with_given_to t.schemas schema given → length after.schemas ≤ 65535
    → IsFullTo t.schemas schema → ⊥
few_left t after None given is same few full = full
few_left t after (Some s) None is same few full = is
few_left t after (Some s) (Some (Known id)) is same few full = full.0 (id - 1) is.1
few_left t after (Some s) (Some (New id)) is same few full = omega (arith, few, full.1, ap length same, length-append t.schemas (s ∷ []))

channel_new : (t after : tables.IdContents) (c : ChannelDef) (g : Given) → channel_place (ids_in t) c ≡ None → Offers t.channels c g → after.channels ≡ with_given t.channels c g → after.channels ≡ t.channels ++ c ∷ []
channel_new t after c (Known id) none is same = absurd (channel_missed t c none (id - 1) is.1)
channel_new t after c (New id) none is same = same

pub record Answers (t : tables.IdContents) (c : ChannelDef) (result : Result GivenIds IdRefused) (after : tables.IdContents) : Type 0 where
  pub declared : IdsDeclared (ids_in t) c result (ids_in after)
  pub schemas : HasSchemas after

answers_given : (t after : tables.IdContents) (c : ChannelDef) (given : GivenIds) → HasSchemas t → EachOnce t.schemas → channel_place (ids_in t) c ≡ None → length after.schemas ≤ 65535 → length after.channels ≤ 65535
    → Declares t c given after → Answers t c (Ok given) after
answers_given t after c given has once none few_schemas few_channels is =
    let schema = subst (λ (l : List SchemaDef). Entered t l c.schema) (sym is.schemas) (entered t c.schema given.schema is.schema) in
    let channels = channel_new t after c given.channel none is.channel is.channels in
    let left : IsFull t.channels c → ⊥ = λ full. omega (arith, few_channels, full.1, ap length channels, length-append t.channels (c ∷ [])) in
    let gives : GivesIds (ids_in t) c given = record {
      schema = offers_schema t c.schema given.schema once is.schema;
      channel = offers_channel t c (channel_place (ids_in t) c) given.channel refl none is.channel;
    } in
    record {
      declared = (enough_ids t c none (few_left t after c.schema given.schema is.schema is.schemas few_schemas) left, gives, ids_after t after c has none schema channels);
      schemas = schemas_after t after c has schema channels;
    }

pub answers_by : (t after : tables.IdContents) (c : ChannelDef) (result : Result GivenIds IdRefused) → HasSchemas t → EachOnce t.schemas → channel_place (ids_in t) c ≡ None → length after.schemas ≤ 65535 → length after.channels ≤ 65535
    → IfOk result (λ given. Declares t c given after) → IfErr result (RefusesIds t c) → OnErr result (after ≡ t) → Answers t c result after
answers_by t after c (Ok given) has once none few_schemas few_channels ok why same = answers_given t after c given has once none few_schemas few_channels ok
answers_by t after c (Err TooManySchemas) has once none few_schemas few_channels ok why same = record {
  declared = (lack_is (ids_in t) c true (nat_le 65535 (length (contents t))) (schemas_lacking t c.schema why) refl, ap ids_in same);
  schemas = subst HasSchemas (sym same) has;
}
answers_by t after c (Err TooManyChannels) has once none few_schemas few_channels ok why same = record {
  declared = (lack_is (ids_in t) c false true (schemas_enough t c.schema why.0) (channels_lacking t c why.1), ap ids_in same);
  schemas = subst HasSchemas (sym same) has;
}
answers_by t after c (Err Memory) has once none few_schemas few_channels ok why same = record {
  declared = (enough_ids t c none why.1 why.2, ap ids_in same);
  schemas = subst HasSchemas (sym same) has;
}
