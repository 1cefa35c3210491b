-- The contents of the channels that have messages, gone through one by one.
use Rattle.std.proofs.Common.{◌≡◌, ◌⊎◌, ℕ, ◌+◌, ◌-◌, ◌*◌, ◌<◌, ◌≤◌, true, false, List, [], ◌∷◌, length, Option, Some, None, refl, sym, subst, inl, inr, ◌∙◌, arith}
use Rattle.rec_data.specs.declared.schema.SchemaDef.{SchemaDef}
use Rattle.rec_data.specs.declared.channel.ChannelDef.{ChannelDef}
use Rattle.mcap_model.specs.Places.{At, Has}
use Rattle.mcap_model.specs.Tops.{Top, flat}
use Rattle.mcap_model.specs.Declarations.{TablesOf}
use Rattle.mcap_model.specs.Merged.{Sent, IsFrom, IsContent, IsUsed, SchemaIsUsed}
use Rattle.mcap_model.proofs.Places.{at_none, at_one, at_kept, at_last, at_more}
use Rattle.mcap_model.proofs.Flat.{at_mapped}
use Rattle.id_table.specs.Ids as tables
use Rattle.id_table.specs.Given.{Offers, OffersTo, with_given, with_given_to, IsFullTo}
use Rattle.id_table.specs.declared.given.Given.{Given}
use Rattle.id_table.specs.declared.given.Given.TheVariants.{Known, New}
use Rattle.id_table.specs.declared.given.IdRefused.{IdRefused}
use Rattle.id_table.specs.declared.given.IdRefused.TheVariants.{TooManySchemas, TooManyChannels, Memory}
use Rattle.history_ids.specs.Tables.{SchemaHasId, HasSchemas}
use Rattle.mcap_merge.specs.declared.input.Input.{Input}
use Rattle.mcap_merge.specs.Inputs.{HoldInputs}
use Rattle.mcap_merge.specs.ReadInputs.{Read, read_tops}
use Rattle.mcap_merge.specs.Joining.{TableIsUsed, LackMet}
use Rattle.mcap_merge.specs.Contents.{TakesId, TakesOf, LacksIdsOf, IsIdTable, HasContent, id_place, IdsSuffice}
use Rattle.mcap_merge.proofs.Contents.{content_once}
use Rattle.mcap_merge.proofs.Used.{content_used, used_given, used_none, more_than}
use Rattle.mcap_merge.proofs.Sources.{held_message, place_within, either_place, is_there, asked_at, not_there}

-- ---- the table with a content more

given_keeps : {X : Type 0} (xs : List X) (x y : X) (g : Given) → Has xs y → Has (with_given xs x g) y
given_keeps xs x y (Known id) has = has
given_keeps xs x y (New id) has = (has.0, at_kept xs (x ∷ []) has.0 y has.1)

given_has : {X : Type 0} (xs : List X) (x : X) (g : Given) → Offers xs x g → Has (with_given xs x g) x
given_has xs x (Known id) is = (id - 1, is.1)
given_has xs x (New id) is = (length xs, at_last xs x [])

given_was : {X : Type 0} (xs : List X) (x y : X) (g : Given) (n : ℕ) → At (with_given xs x g) n y → Has xs y ⊎ (y ≡ x)
given_was xs x y (Known id) n at = inl (n, at)
given_was xs x y (New id) n at = elim (at_more xs x n y at) [
  | inl old ↦ inl (n, old)
  | inr new ↦ inr new.1
]

takes_keeps : (t after : tables.IdContents) (d e : ChannelDef) → TakesId t d after → Has t.channels e → Has after.channels e
takes_keeps t after d e (given, is) has = subst (λ (l : List ChannelDef). Has l e) (sym is.channels) (given_keeps t.channels d e given.channel has)

takes_has : (t after : tables.IdContents) (d : ChannelDef) → TakesId t d after → Has after.channels d
takes_has t after d (given, is) = subst (λ (l : List ChannelDef). Has l d) (sym is.channels) (given_has t.channels d given.channel is.channel)

schema_kept : (schemas : List SchemaDef) (one other : Option SchemaDef) (g : Option Given) → SchemaHasId schemas other → SchemaHasId (with_given_to schemas one g) other
schema_kept schemas one None g has = tt
schema_kept schemas None (Some s) g has = has
schema_kept schemas (Some r) (Some s) None has = has
schema_kept schemas (Some r) (Some s) (Some g) has = given_keeps schemas r s g has

schema_has : (schemas : List SchemaDef) (one : Option SchemaDef) (g : Option Given) → OffersTo schemas one g → SchemaHasId (with_given_to schemas one g) one
schema_has schemas None g is = tt
schema_has schemas (Some s) None is = absurd is
schema_has schemas (Some s) (Some g) is = given_has schemas s g is

takes_schemas : (t after : tables.IdContents) (d : ChannelDef) → TakesId t d after → HasSchemas t → HasSchemas after
takes_schemas t after d (given, is) has n c at = elim (given_was t.channels d c given.channel n (subst (λ (l : List ChannelDef). At l n c) is.channels at)) [
  | inl old ↦ subst (λ (l : List SchemaDef). SchemaHasId l c.schema) (sym is.schemas) (schema_kept t.schemas d.schema c.schema given.schema (has old.0 c old.1))
  | inr same ↦ subst (λ (l : List SchemaDef). SchemaHasId l c.schema) (sym is.schemas) (subst (λ (e : ChannelDef). SchemaHasId (with_given_to t.schemas d.schema given.schema) e.schema) (sym same) (schema_has t.schemas d.schema given.schema is.schema))
]

-- ---- the channels so far

-- the table has the contents of the channels before that place that have messages, and no others
pub record ContentsSeen (inputs : List (List Top)) (place : ℕ) (t : tables.IdContents) : Type 0 where
  pub has : HasSchemas t
  pub used : TableIsUsed inputs t
  pub seen : (m : Sent) → IsFrom inputs m → id_place m < place → (d : ChannelDef) × HasContent inputs m d × Has t.channels d

pub contents_none : (inputs : List (List Top)) (t : tables.IdContents) → t.schemas ≡ [] → t.channels ≡ [] → ContentsSeen inputs 0 t
contents_none inputs t schemas channels = record {
  has = subst (λ (l : List ChannelDef). (n : ℕ) (c : ChannelDef) → At l n c → SchemaHasId t.schemas c.schema) (sym channels) (λ n c at. absurd (at_none n c at));
  used = used_none inputs t schemas channels;
  seen = λ m from less. absurd (omega (arith, less));
}

-- one that has messages
pub contents_more : (reads : List Read) (inputs : List Input) (place number source : ℕ) (input : Input) (t after : tables.IdContents) → HoldInputs reads inputs → place ≡ number * 65536 + source → source < 65536 → At inputs number input → At input.used.items source true
    → ContentsSeen (read_tops reads) place t → ((records : List Top) → TablesOf records input.tables → TakesOf records source t after) → ContentsSeen (read_tops reads) (place + 1) after
contents_more reads inputs place number source input t after hold place_is small here marked was entered =
    let (m, number_is, asked) = asked_at reads inputs number source input hold here marked in
    let (d, is, fits, takes) = entered (flat asked.tops) asked.tables_are in
    let before = was.seen in
    record {
      has = takes_schemas t after d takes was.has;
      used = used_given (read_tops reads) t after d takes.0 takes.1 (content_used (read_tops reads) m source input.tables d asked is) was.used;
      seen = λ w from less. elim (either_place w place less) [
        | inl early ↦ let old = before w from early in (old.0, old.1, takes_keeps t after d old.0 takes old.2)
        | inr same ↦
            let there = is_there reads inputs w place number source hold from place_is small same in (
              d,
              record {
                tops = asked.tops;
                at = subst (λ (n : ℕ). At (read_tops reads) n asked.tops) (number_is ∙ sym there.input) asked.at;
                is = subst (λ (n : ℕ). IsContent (flat asked.tops) n d) (sym there.channel) is;
                fits = fits;
              },
              takes_has t after d takes,
            )
      ];
    }

-- one that has none
pub contents_same : (reads : List Read) (inputs : List Input) (place number source : ℕ) (input : Input) (t : tables.IdContents) → HoldInputs reads inputs → place ≡ number * 65536 + source → source < 65536 → At inputs number input → At input.used.items source false
    → ContentsSeen (read_tops reads) place t → ContentsSeen (read_tops reads) (place + 1) t
contents_same reads inputs place number source input t hold place_is small here unmarked was = record {
  has = was.has;
  used = was.used;
  seen = λ w from less. let before = was.seen in elim (either_place w place less) [
    | inl early ↦ before w from early
    | inr same ↦ absurd (not_there reads inputs w number source input hold from here unmarked (is_there reads inputs w place number source hold from place_is small same))
  ];
}

-- a content that is used is the one that was seen
used_once : (reads : List Read) (inputs : List Input) (m : Sent) (tops : List Top) (d e : ChannelDef) → HoldInputs reads inputs → IsFrom (read_tops reads) m → At (read_tops reads) m.input tops → IsContent (flat tops) m.seen.channel d → HasContent (read_tops reads) m e → e ≡ d
used_once reads inputs m tops d e hold from at is has =
    let held = held_message reads inputs m hold from in
    let there : At (read_tops reads) m.input held.read.tops = at_mapped (λ (x : Read). x.tops) reads m.input held.read held.at in
    let one : tops ≡ held.read.tops = at_one (read_tops reads) m.input tops held.read.tops at there in
    let other : has.tops ≡ held.read.tops = at_one (read_tops reads) m.input has.tops held.read.tops has.at there in
    content_once (flat held.read.tops) held.input.tables m.seen.channel e d held.holds.tables_are
    (subst (λ (l : List Top). IsContent (flat l) m.seen.channel e) other has.is)
    (subst (λ (l : List Top). IsContent (flat l) m.seen.channel d) one is)

pub contents_all : (reads : List Read) (inputs : List Input) (place : ℕ) (t : tables.IdContents) → HoldInputs reads inputs → ContentsSeen (read_tops reads) place t → length inputs * 65536 ≤ place → length t.schemas ≤ 65535 → length t.channels ≤ 65535 → IdsSuffice (read_tops reads)
contents_all reads inputs place t hold was all few_schemas few_channels =
    let seen = was.seen in
    let has = was.has in
    let there : (d : ChannelDef) → IsUsed (read_tops reads) d → Has t.channels d =
    λ d used. let one = seen used.message used.from (place_within reads inputs used.message place hold used.from all) in
    subst (Has t.channels) (used_once reads inputs used.message used.tops d one.0 hold used.from used.at used.is one.1) one.2 in
    record {
      contents = λ m from. let one = seen m from (place_within reads inputs m place hold from all) in (one.0, one.1);
      schemas = (t.schemas, few_schemas, λ s uses. let at = there uses.0 uses.1 in subst (SchemaHasId t.schemas) uses.2 (has at.0 uses.0 at.1));
      channels = (t.channels, few_channels, there);
    }

-- no id is left
pub contents_lack : (reads : List Read) (inputs : List Input) (place number source : ℕ) (input : Input) (t : tables.IdContents) (why : IdRefused) → HoldInputs reads inputs → At inputs number input → At input.used.items source true → IsIdTable t
    → ContentsSeen (read_tops reads) place t → ((records : List Top) → TablesOf records input.tables → LacksIdsOf records source t why) → LackMet (read_tops reads) why
contents_lack reads inputs place number source input t why hold here marked table was lacks =
    let (m, number_is, asked) = asked_at reads inputs number source input hold here marked in
    by why (λ d is. content_used (read_tops reads) m source input.tables d asked is) (lacks (flat asked.tops) asked.tables_are)
  where
    full_schemas : (d : ChannelDef) (o : Option SchemaDef) → d.schema ≡ o → IsUsed (read_tops reads) d → IsFullTo t.schemas o → LackMet (read_tops reads) TooManySchemas
    full_schemas d None is used full = absurd full
    full_schemas d (Some s) is used (lacks_s, many) =
        more_than (SchemaIsUsed (read_tops reads)) t.schemas s 65535 (let size : length t.schemas ≡ 65535 = omega (arith, table.few_schemas, many) in size) table.schemas lacks_s was.used.schemas (d, used, is)

    by : {records : List Top} (w : IdRefused) → ((d : ChannelDef) → IsContent records source d → IsUsed (read_tops reads) d) → LacksIdsOf records source t w → LackMet (read_tops reads) w
    by TooManySchemas used (d, is, full) = full_schemas d d.schema refl (used d is) full
    by TooManyChannels used (d, is, (lacks_d, many)) =
        more_than (IsUsed (read_tops reads)) t.channels d 65535 (let size : length t.channels ≡ 65535 = omega (arith, table.few_channels, many) in size) table.channels lacks_d was.used.channels (used d is)
    by Memory used it = tt
