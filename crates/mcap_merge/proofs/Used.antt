-- The contents of the table are used, and where no id is left more are used than there are ids.
use Rattle.std.proofs.Common.{◌≡◌, ℕ, suc, ◌≤◌, Bool, true, false, List, [], ◌∷◌, ◌++◌, length, map, Option, Some, None, refl, sym, ap, subst, inl, inr, ◌∙◌, arith}
use Rattle.std.specs.Prelude.{nat_lt, nat_le, ◌&&◌, if◌then◌else◌, Err}
use Rattle.std.proofs.lemmas.Bool.{leb-true, both_ways}
use Rattle.std.proofs.lemmas.List.{length-append, length-map}
use Rattle.rec_data.specs.declared.schema.SchemaDef.{SchemaDef}
use Rattle.rec_data.specs.declared.channel.ChannelDef.{ChannelDef}
use Rattle.mcap_model.specs.Places.{At, Each}
use Rattle.mcap_model.specs.Tops.{Top, flat}
use Rattle.mcap_model.specs.declared.tables.Tables.{Tables}
use Rattle.mcap_model.proofs.Places.{at_none, at_within, at_more}
use Rattle.mcap_model.proofs.Lists.{pairs_from}
use Rattle.mcap_model.proofs.OneMore.{each_last}
use Rattle.id_table.specs.Ids as tables
use Rattle.id_table.specs.Given.{Lacks, EachOnce, Declares, with_given, with_given_to}
use Rattle.id_table.specs.declared.given.Given.{Given}
use Rattle.id_table.specs.declared.given.Given.TheVariants.{Known, New}
use Rattle.id_table.specs.declared.given.GivenIds.{GivenIds}
use Rattle.id_table.specs.declared.given.IdRefused.{IdRefused}
use Rattle.id_table.specs.declared.given.IdRefused.TheVariants.{TooManySchemas, TooManyChannels, Memory}
use Rattle.history_ids.specs.Ids.{Ids, schema_place, new_schema_at, channel_place}
use Rattle.history_ids.specs.DeclarationFields.{fields_of_schema}
use Rattle.history_ids.specs.Tables.{content_in, ids_in, schemas_lack, IdsDeclared, ids_lack}
use Rattle.history_ids.proofs.TableIds.{schema_missed, channel_missed}
use Rattle.mcap_model.specs.Merged.{Sent, IsContent, IsUsed, SchemaIsUsed, MoreThan}
use Rattle.mcap_merge.specs.Joining.{TableIsUsed, IsAskedFor, LackMet}

-- the content of an asked channel is used
pub content_used : (inputs : List (List Top)) (m : Sent) (source : ℕ) (known : Tables) (d : ChannelDef) → (asked : IsAskedFor inputs m source known) → IsContent (flat asked.tops) source d → IsUsed inputs d
content_used inputs m source known d asked is = record {
  message = m;
  from = asked.from;
  tops = asked.tops;
  at = asked.at;
  is = subst (λ (n : ℕ). IsContent (flat asked.tops) n d) (sym asked.on) is;
}

-- ---- a content more

each_given : {X : Type 0} (P : X → Type 0) (xs : List X) (x : X) (g : Given) → Each P xs → P x → Each P (with_given xs x g)
each_given P xs x (Known id) each one = each
each_given P xs x (New id) each one = each_last P xs x each one

each_given_to : {X : Type 0} (P : X → Type 0) (xs : List X) (x : Option X) (g : Option Given) → Each P xs → ((y : X) → x ≡ Some y → P y) → Each P (with_given_to xs x g)
each_given_to P xs None g each one = each
each_given_to P xs (Some x) None each one = each
each_given_to P xs (Some x) (Some g) each one = each_given P xs x g each (one x refl)

pub used_given : (inputs : List (List Top)) (t after : tables.IdContents) (d : ChannelDef) (given : GivenIds) → Declares t d given after → IsUsed inputs d → TableIsUsed inputs t → TableIsUsed inputs after
used_given inputs t after d given declares used was = record {
  channels = subst (Each (IsUsed inputs)) (sym declares.channels) (each_given (IsUsed inputs) t.channels d given.channel was.channels used);
  schemas = subst (Each (SchemaIsUsed inputs)) (sym declares.schemas) (each_given_to (SchemaIsUsed inputs) t.schemas d.schema given.schema was.schemas (λ s is. (d, used, is)));
}

pub used_none : (inputs : List (List Top)) (t : tables.IdContents) → t.schemas ≡ [] → t.channels ≡ [] → TableIsUsed inputs t
used_none inputs t schemas channels = record {
  channels = subst (Each (IsUsed inputs)) (sym channels) (λ n x at. absurd (at_none n x at));
  schemas = subst (Each (SchemaIsUsed inputs)) (sym schemas) (λ n x at. absurd (at_none n x at));
}

-- ---- no id is left

pub more_than : {X : Type 0} (P : X → Type 0) (xs : List X) (x : X) (n : ℕ) → length xs ≡ n → EachOnce xs → Lacks xs x → Each P xs → P x → MoreThan n P
more_than P xs x n size once lacks each one = (
  xs ++ x ∷ [],
  let long : length (xs ++ x ∷ []) ≡ suc n = omega (arith, size, length-append xs (x ∷ [])) in long,
  pairs_from (λ y z. y ≡ z → ⊥) (xs ++ x ∷ []) (λ i j y z less at_y at_z same. elim (at_more xs x i y at_y) [
    | inl first ↦ elim (at_more xs x j z at_z) [
      | inl second ↦
          let place : i ≡ j = once i j y first (subst (At xs j) (sym same) second) in
          omega (arith, less, place)
      | inr last ↦ lacks i (subst (At xs i) (same ∙ last.1) first)
    ]
    | inr late ↦ elim (at_more xs x j z at_z) [
      | inl second ↦ omega (arith, less, late.0, at_within xs j z second)
      | inr last ↦ omega (arith, less, late.0, last.0)
    ]
  ]),
  each_last P xs x each one,
)

abbrev lack_by : Bool → Bool → Option IdRefused
lack_by schemas channels = if schemas then Some TooManySchemas else (if channels then Some TooManyChannels else None)

lack_is : (ids : Ids) (c : ChannelDef) (a b : Bool) → schemas_lack ids c.schema ≡ a → nat_le 65535 (length ids.channels) ≡ b → ids_lack ids c ≡ lack_by a b
lack_is ids c a b one other = ap (λ (x : Bool). lack_by x (nat_le 65535 (length ids.channels))) one ∙ ap (lack_by a) other

none_schemas : None ≡ Some TooManySchemas → ⊥
none_schemas e = cc

none_channels : None ≡ Some TooManyChannels → ⊥
none_channels e = cc

channels_schemas : Some TooManyChannels ≡ Some TooManySchemas → ⊥
channels_schemas e = cc

schemas_by : (a b : Bool) → lack_by a b ≡ Some TooManySchemas → a ≡ true
schemas_by true b e = refl
schemas_by false true e = absurd (channels_schemas e)
schemas_by false false e = absurd (none_schemas e)

channels_by : (a b : Bool) → lack_by a b ≡ Some TooManyChannels → b ≡ true
channels_by true b e = absurd (channels_schemas (sym e))
channels_by false true e = refl
channels_by false false e = absurd (none_channels e)

-- a schema that is new where all ids are given
record NewSchema (t : tables.IdContents) (o : Option SchemaDef) : Type 0 where
  schema : SchemaDef
  is : o ≡ Some schema
  lacks : Lacks t.schemas schema
  many : 65535 ≤ length t.schemas

new_schema_at_is : (t : tables.IdContents) (s : SchemaDef) (spot : Option ℕ) → schema_place (ids_in t) s ≡ spot → (nat_lt 0 (length (new_schema_at spot (length (map fields_of_schema t.schemas)) s)) && nat_le 65535 (length (map fields_of_schema t.schemas))) ≡ true → NewSchema t (Some s)
new_schema_at_is t s (Some k) e is = absurd (both_ways false refl is)
new_schema_at_is t s None e is =
    let many = leb-true 65535 (length (map fields_of_schema t.schemas)) is in
    record { schema = s; is = refl; lacks = schema_missed t s e; many = omega (arith, many, length-map t.schemas fields_of_schema) }

new_schema_is : (t : tables.IdContents) (o : Option SchemaDef) → schemas_lack (ids_in t) o ≡ true → NewSchema t o
new_schema_is t None is = absurd (both_ways false refl is)
new_schema_is t (Some s) is = new_schema_at_is t s (schema_place (ids_in t) s) refl is

pub used_lacking : (inputs : List (List Top)) (t after : tables.IdContents) (d : ChannelDef) (why : IdRefused) → EachOnce t.schemas → EachOnce t.channels → length t.schemas ≤ 65535 → length t.channels ≤ 65535 → channel_place (ids_in t) d ≡ None
    → IdsDeclared (ids_in t) d (Err why) (ids_in after) → IsUsed inputs d → TableIsUsed inputs t → LackMet inputs why
used_lacking inputs t after d TooManySchemas once_s once_c few_s few_c none is used was =
    let ids = ids_in t in
    let lack = schemas_by (schemas_lack ids d.schema) (nat_le 65535 (length ids.channels)) (sym (lack_is ids d (schemas_lack ids d.schema) (nat_le 65535 (length ids.channels)) refl refl) ∙ is.0) in
    let new = new_schema_is t d.schema lack in
    more_than (SchemaIsUsed inputs) t.schemas new.schema 65535 (let size : length t.schemas ≡ 65535 = omega (arith, few_s, new.many) in size) once_s new.lacks was.schemas (d, used, new.is)
used_lacking inputs t after d TooManyChannels once_s once_c few_s few_c none is used was =
    let ids = ids_in t in
    let lack = channels_by (schemas_lack ids d.schema) (nat_le 65535 (length ids.channels)) (sym (lack_is ids d (schemas_lack ids d.schema) (nat_le 65535 (length ids.channels)) refl refl) ∙ is.0) in
    let many = leb-true 65535 (length ids.channels) lack in
    more_than (IsUsed inputs) t.channels d 65535 (let size : length t.channels ≡ 65535 = omega (arith, few_c, many, length-map t.channels (content_in (map fields_of_schema t.schemas))) in size) once_c (channel_missed t d none) was.channels used
used_lacking inputs t after d Memory once_s once_c few_s few_c none is used was = tt
