-- The schemas that messages use, gone through one by one.
use Rattle.std.proofs.Common.{◌≡◌, ℕ, ◌+◌, ◌-◌, ◌*◌, ◌<◌, ◌≤◌, true, false, List, [], ◌∷◌, ◌++◌, length, map, Option, Some, None, refl, sym, ap, subst, inl, inr, ◌∙◌, arith}
use Rattle.std.proofs.lemmas.List.{length-map}
use Rattle.std.proofs.lemmas.Option.{same_Some}
use Rattle.std.specs.Prelude.{IsPermutation}
use Rattle.std.proofs.lemmas.List.{nil_from_length}
use Rattle.std.proofs.lemmas.List.Sorted.{length_permutation}
use Rattle.rec_data.specs.declared.schema.SchemaDef.{SchemaDef}
use Rattle.rec_data.specs.declared.channel.ChannelDef.{ChannelDef}
use Rattle.mcap_model.specs.Places.{At, Has, Each}
use Rattle.mcap_model.specs.Tops.{Top, flat}
use Rattle.mcap_model.specs.Declarations.{TablesOf}
use Rattle.mcap_model.specs.Merged.{Sent, IsFrom, IsContent, IsUsed, SchemaIsUsed, AtMost}
use Rattle.mcap_model.proofs.Places.{at_none, at_kept, at_last, at_one}
use Rattle.mcap_model.proofs.NamedTopics.{unmapped}
use Rattle.mcap_model.proofs.Flat.{at_mapped, map-append}
use Rattle.mcap_model.proofs.OneMore.{each_last}
use Rattle.id_table.specs.Ids as tables
use Rattle.id_table.specs.Given.{EachOnce, Offers, OffersTo, with_given, with_given_to, Declares, RefusesIds}
use Rattle.id_table.specs.declared.given.Given.{Given}
use Rattle.id_table.specs.declared.given.Given.TheVariants.{Known, New}
use Rattle.id_table.specs.declared.given.GivenIds.{GivenIds}
use Rattle.id_table.specs.declared.given.IdRefused.{IdRefused}
use Rattle.id_table.specs.declared.given.IdRefused.TheVariants.{TooManySchemas, TooManyChannels, Memory}
use Rattle.mcap_merge.specs.declared.input.Input.{Input}
use Rattle.mcap_merge.specs.Inputs.{HoldInputs}
use Rattle.mcap_merge.specs.ReadInputs.{Read, read_tops}
use Rattle.mcap_merge.specs.Joining.{IsAskedFor, WhyLacks}
use Rattle.mcap_merge.specs.Schemas.{bare, AreBare, Enters, EntersOf, LacksPlace, LacksPlaceOf, LacksSchemas}
use Rattle.mcap_merge.proofs.Contents.{content_once}
use Rattle.mcap_merge.proofs.Used.{content_used, more_than}
use Rattle.mcap_merge.specs.Contents.{id_place}
use Rattle.mcap_merge.proofs.Sources.{place_within, either_place, is_there, asked_at, not_there}

-- ---- a channel that has nothing but a schema

none_sorted : (pairs sorted : List (List ℕ × List ℕ)) → pairs ≡ [] → IsPermutation pairs sorted → sorted ≡ []
none_sorted pairs sorted none same = nil_from_length sorted (length_permutation pairs sorted same ∙ ap (λ (l : List (List ℕ × List ℕ)). length l) none)

pub bare_is : (s : SchemaDef) (topic encoding : List ℕ) (pairs sorted : List (List ℕ × List ℕ)) → topic ≡ [] → encoding ≡ [] → pairs ≡ [] → IsPermutation pairs sorted → record { topic = topic; message_encoding = encoding; metadata = sorted; schema = Some s } ≡ bare s
bare_is s topic encoding pairs sorted one two none same = by (none_sorted pairs sorted none same)
  where
    by : sorted ≡ [] → record { topic = topic; message_encoding = encoding; metadata = sorted; schema = Some s } ≡ bare s
    by three = cc

-- ---- the table

bare_one : (s t : SchemaDef) → bare s ≡ bare t → s ≡ t
bare_one s t same = same_Some s t (ap (λ (d : ChannelDef). d.schema) same)

-- a schema stands where its channel does
bare_at : (t : tables.IdContents) (n : ℕ) (s : SchemaDef) → AreBare t → At t.channels n (bare s) → At t.schemas n s
bare_at t n s are at =
    let (r, there, same) = unmapped bare t.schemas n (bare s) (subst (λ (l : List ChannelDef). At l n (bare s)) are at) in
    subst (At t.schemas n) (bare_one r s same) there

channel_at : (t : tables.IdContents) (n : ℕ) (s : SchemaDef) → AreBare t → At t.schemas n s → At t.channels n (bare s)
channel_at t n s are at = subst (λ (l : List ChannelDef). At l n (bare s)) (sym are) (at_mapped bare t.schemas n s at)

enters_by : (t after : tables.IdContents) (s : SchemaDef) (schema : Option Given) (channel : Given) → AreBare t → OffersTo t.schemas (Some s) schema → Offers t.channels (bare s) channel
    → after.schemas ≡ with_given_to t.schemas (Some s) schema → after.channels ≡ with_given t.channels (bare s) channel → AreBare after × Enters t.schemas s after.schemas
enters_by t after s None channel are offers other schemas channels = absurd offers
enters_by t after s (Some (Known i)) (Known j) are offers other schemas channels = (channels ∙ are ∙ ap (map bare) (sym schemas), inl ((i - 1, offers.1), schemas))
enters_by t after s (Some (Known i)) (New j) are offers other schemas channels = absurd (other.0 (i - 1) (channel_at t (i - 1) s are offers.1))
enters_by t after s (Some (New i)) (Known j) are offers other schemas channels = absurd (offers.0 (j - 1) (bare_at t (j - 1) s are other.1))
enters_by t after s (Some (New i)) (New j) are offers other schemas channels =
    (channels ∙ ap (λ (l : List ChannelDef). l ++ bare s ∷ []) are ∙ sym (map-append bare t.schemas (s ∷ [])) ∙ ap (map bare) (sym schemas), inr schemas)

pub enters : (t after : tables.IdContents) (s : SchemaDef) (d : ChannelDef) (given : GivenIds) → AreBare t → d ≡ bare s → Declares t d given after → AreBare after × Enters t.schemas s after.schemas
enters t after s d given are is declares =
    let it = subst (λ (c : ChannelDef). Declares t c given after) is declares in
    enters_by t after s given.schema given.channel are it.schema it.channel it.schemas it.channels

pub lacks_place : (t : tables.IdContents) (s : SchemaDef) (d : ChannelDef) (why : IdRefused) → AreBare t → d ≡ bare s → EachOnce t.schemas → length t.schemas ≤ 65535 → RefusesIds t d why → LacksPlace t.schemas s why
lacks_place t s d why are is once few refuses = by why (subst (λ (c : ChannelDef). RefusesIds t c why) is refuses)
  where
    by : (w : IdRefused) → RefusesIds t (bare s) w → LacksPlace t.schemas s w
    by TooManySchemas full = (full, once, few)
    by TooManyChannels (room, (lacks, many)) =
        let size = ap (λ (l : List ChannelDef). length l) are in
        absurd (room (λ n at. lacks n (channel_at t n s are at), omega (arith, many, size, length-map t.schemas bare)))
    by Memory lacks = tt

pub lacks_place_of : (records : List Top) (source : ℕ) (old : List SchemaDef) (d : ChannelDef) (s : SchemaDef) (why : IdRefused) → IsContent records source d → d.schema ≡ Some s → LacksPlace old s why → LacksPlaceOf records source old why
lacks_place_of records source old d s TooManySchemas is some lacks = (d, s, is, some, lacks)
lacks_place_of records source old d s TooManyChannels is some none = none
lacks_place_of records source old d s Memory is some it = tt

-- ---- what enters

enters_each : (P : SchemaDef → Type 0) (old new : List SchemaDef) (o : Option SchemaDef) → EntersOf old o new → Each P old → ((s : SchemaDef) → o ≡ Some s → P s) → Each P new
enters_each P old new None is each one = subst (Each P) (sym is) each
enters_each P old new (Some s) (inl (has, is)) each one = subst (Each P) (sym is) each
enters_each P old new (Some s) (inr is) each one = subst (Each P) (sym is) (each_last P old s each (one s refl))

enters_keeps : (old new : List SchemaDef) (o : Option SchemaDef) (s : SchemaDef) → EntersOf old o new → Has old s → Has new s
enters_keeps old new None s is has = subst (λ (l : List SchemaDef). Has l s) (sym is) has
enters_keeps old new (Some r) s (inl (there, is)) has = subst (λ (l : List SchemaDef). Has l s) (sym is) has
enters_keeps old new (Some r) s (inr is) has = subst (λ (l : List SchemaDef). Has l s) (sym is) (has.0, at_kept old (r ∷ []) has.0 s has.1)

enters_has : (old new : List SchemaDef) (s : SchemaDef) → Enters old s new → Has new s
enters_has old new s (inl (has, is)) = subst (λ (l : List SchemaDef). Has l s) (sym is) has
enters_has old new s (inr is) = subst (λ (l : List SchemaDef). Has l s) (sym is) (length old, at_last old s [])

-- ---- the channels so far

-- these are the schemas of the channels before that place that have messages
pub record SchemasSeen (inputs : List (List Top)) (place : ℕ) (schemas : List SchemaDef) : Type 0 where
  pub used : Each (SchemaIsUsed inputs) schemas
  pub all : (m : Sent) → IsFrom inputs m → id_place m < place → (tops : List Top) (d : ChannelDef) (s : SchemaDef) → At inputs m.input tops → IsContent (flat tops) m.seen.channel d → d.schema ≡ Some s → Has schemas s

pub seen_none : (inputs : List (List Top)) (schemas : List SchemaDef) → schemas ≡ [] → SchemasSeen inputs 0 schemas
seen_none inputs schemas none = record {
  used = subst (Each (SchemaIsUsed inputs)) (sym none) (λ n s at. absurd (at_none n s at));
  all = λ m from less. absurd (omega (arith, less));
}

-- one that has messages
pub seen_more : (reads : List Read) (inputs : List Input) (place number source : ℕ) (input : Input) (old new : List SchemaDef) → HoldInputs reads inputs → place ≡ number * 65536 + source → source < 65536 → At inputs number input → At input.used.items source true
    → SchemasSeen (read_tops reads) place old → ((records : List Top) → TablesOf records input.tables → (d : ChannelDef) × IsContent records source d × EntersOf old d.schema new) → SchemasSeen (read_tops reads) (place + 1) new
seen_more reads inputs place number source input old new hold place_is small here marked was entered =
    let (m, number_is, asked) = asked_at reads inputs number source input hold here marked in
    let (d, is, enter) = entered (flat asked.tops) asked.tables_are in
    let used : IsUsed (read_tops reads) d = content_used (read_tops reads) m source input.tables d asked is in
    let before = was.all in
    record {
      used = enters_each (SchemaIsUsed (read_tops reads)) old new d.schema enter was.used (λ s some. (d, used, some));
      all = λ w from less tops e s at_w is_e some. elim (either_place w place less) [
        | inl early ↦ enters_keeps old new d.schema s enter (before w from early tops e s at_w is_e some)
        | inr same ↦
            let there = is_there reads inputs w place number source hold from place_is small same in
            let at_m : At (read_tops reads) m.input tops = subst (λ (n : ℕ). At (read_tops reads) n tops) (there.input ∙ sym number_is) at_w in
            let same_tops : tops ≡ asked.tops = at_one (read_tops reads) m.input tops asked.tops at_m asked.at in
            let there_e : IsContent (flat asked.tops) source e = subst (λ (c : ℕ). IsContent (flat asked.tops) c e) there.channel (subst (λ (l : List Top). IsContent (flat l) w.seen.channel e) same_tops is_e) in
            let one : e ≡ d = content_once (flat asked.tops) input.tables source e d asked.tables_are there_e is in
            let has : d.schema ≡ Some s = sym (ap (λ (c : ChannelDef). c.schema) one) ∙ some in
            enters_has old new s (subst (λ (o : Option SchemaDef). EntersOf old o new) has enter)
      ];
    }

-- one that has none
pub seen_same : (reads : List Read) (inputs : List Input) (place number source : ℕ) (input : Input) (schemas : List SchemaDef) → HoldInputs reads inputs → place ≡ number * 65536 + source → source < 65536 → At inputs number input → At input.used.items source false
    → SchemasSeen (read_tops reads) place schemas → SchemasSeen (read_tops reads) (place + 1) schemas
seen_same reads inputs place number source input schemas hold place_is small here unmarked was = record {
  used = was.used;
  all = λ w from less. let before = was.all in elim (either_place w place less) [
    | inl early ↦ before w from early
    | inr same ↦ absurd (not_there reads inputs w number source input hold from here unmarked (is_there reads inputs w place number source hold from place_is small same))
  ];
}

pub seen_all : (reads : List Read) (inputs : List Input) (place : ℕ) (schemas : List SchemaDef) → HoldInputs reads inputs → SchemasSeen (read_tops reads) place schemas → length inputs * 65536 ≤ place → length schemas ≤ 65535 → AtMost 65535 (SchemaIsUsed (read_tops reads))
seen_all reads inputs place schemas hold seen all_places few = (
  schemas,
  few,
  λ s uses.
      let used = uses.1 in
      let all = seen.all in
      all used.message used.from (place_within reads inputs used.message place hold used.from all_places) used.tops uses.0 s used.at used.is uses.2,
)

-- no place is left for the schema of that channel
pub seen_lacks : (reads : List Read) (inputs : List Input) (place number source : ℕ) (input : Input) (old : List SchemaDef) (why : IdRefused) → HoldInputs reads inputs → At inputs number input → At input.used.items source true → SchemasSeen (read_tops reads) place old
    → ((records : List Top) → TablesOf records input.tables → LacksPlaceOf records source old why) → LacksSchemas (read_tops reads) why
seen_lacks reads inputs place number source input old why hold here marked was lacks =
    let (m, number_is, asked) = asked_at reads inputs number source input hold here marked in
    by m asked why (lacks (flat asked.tops) asked.tables_are)
  where
    by : (m : Sent) (asked : IsAskedFor (read_tops reads) m source input.tables) (w : IdRefused) → LacksPlaceOf (flat asked.tops) source old w → LacksSchemas (read_tops reads) w
    by m asked TooManySchemas (d, s, is, some, ((lacks_s, many), once, few)) =
        more_than (SchemaIsUsed (read_tops reads)) old s 65535 (let size : length old ≡ 65535 = omega (arith, few, many) in size) once lacks_s was.used (d, content_used (read_tops reads) m source input.tables d asked is, some)
    by m asked TooManyChannels none = none
    by m asked Memory it = tt

pub told_lack : (inputs : List (List Top)) (why : IdRefused) → LacksSchemas inputs why → WhyLacks inputs why
told_lack inputs TooManySchemas many = many
told_lack inputs TooManyChannels none = absurd none
told_lack inputs Memory it = tt
