-- A history of messages has no more contents than are used, so its ids fit their two bytes.
use Rattle.std.proofs.Common.{◌≡◌, ℕ, zero, suc, ◌+◌, ◌-◌, ◌<◌, ◌≤◌, List, [], ◌∷◌, ◌++◌, length, fold, Option, Some, None, refl, sym, ap, subst, inl, inr, ◌∙◌, append_assoc, append-nil, arith}
use Rattle.std.specs.Prelude.{Ok}
use Rattle.std.proofs.lemmas.List.{length-append, length-map}
use Rattle.rec_data.specs.declared.owned.Rec.{Rec}
use Rattle.rec_data.specs.declared.schema.SchemaDef.{SchemaDef}
use Rattle.rec_data.specs.declared.channel.ChannelDef.{ChannelDef}
use Rattle.mcap_model.specs.Places.{At, Has, Each}
use Rattle.mcap_model.specs.Tops.{Top}
use Rattle.mcap_model.specs.History.{message_of}
use Rattle.mcap_model.specs.ReadBack.{IsReadBack}
use Rattle.mcap_model.specs.Merged.{IsUsed, SchemaIsUsed, AtMost}
use Rattle.mcap_model.proofs.Places.{at_none, at_one, at_within, at_more}
use Rattle.mcap_model.proofs.Lists.{each_joined}
use Rattle.id_table.specs.Ids as tables
use Rattle.id_table.specs.Given.{EachOnce, Offers, OffersTo, with_given, with_given_to, Declares}
use Rattle.id_table.specs.declared.given.Given.{Given}
use Rattle.id_table.specs.declared.given.Given.TheVariants.{Known, New}
use Rattle.id_table.specs.declared.given.GivenIds.{GivenIds}
use Rattle.history_ids.specs.Ids.{Ids, ids_of, with_ids, schema_place, id_at, channel_place, channel_id, new_at, new_records, same_channel, fields_of_channel}
use Rattle.history_ids.specs.Tables.{ids_in, content_in, HasSchemas, id_given, id_of}
use Rattle.history_ids.proofs.Searches.{found}
use Rattle.history_ids.proofs.TableIds.{schema_stands, schema_missed, channel_missed}
use Rattle.history_ids.proofs.Giving.{given_id, given_records, answers_by}
use Rattle.mcap_merge.specs.declared.joining.Declared.{Declared}
use Rattle.mcap_merge.specs.Uses.{Use, added_by, with_use, history_of}
use Rattle.mcap_merge.specs.Joining.{TableIsUsed, declaring_records}
use Rattle.mcap_merge.specs.Contents.{FitsUnderIds, IdsSuffice}
use Rattle.mcap_merge.proofs.Joined.{ids_more, ids_behind}
use Rattle.mcap_merge.proofs.ReadBack.{none_back, records_back}
use Rattle.mcap_merge.proofs.Used.{used_given, used_none}

-- ---- so many different ones

abbrev without : {X : Type 0} → ℕ → List X → List X
without n [] = []
without zero (x ∷ xs) = xs
without (suc n) (x ∷ xs) = x ∷ without n xs

length_without : {X : Type 0} (n : ℕ) (xs : List X) (x : X) → At xs n x → suc (length (without n xs)) ≡ length xs
length_without n [] x at = absurd (at_none n x at)
length_without zero (y ∷ xs) x at = refl
length_without (suc n) (y ∷ xs) x at = ap suc (length_without n xs x at)

without_has : {X : Type 0} (n : ℕ) (xs : List X) (m : ℕ) (y : X) → (m ≡ n → ⊥) → At xs m y → Has (without n xs) y
without_has n [] m y apart at = absurd (at_none m y at)
without_has zero (x ∷ xs) zero y apart at = absurd (apart refl)
without_has zero (x ∷ xs) (suc m) y apart at = (m, at)
without_has (suc n) (x ∷ xs) zero y apart at = (zero, at)
without_has (suc n) (x ∷ xs) (suc m) y apart at =
    let rest = without_has n xs m y (λ same. apart (ap suc same)) at in
    (suc rest.0, rest.1)

once_few : {X : Type 0} (xs all : List X) → EachOnce xs → ((x : X) → Has xs x → Has all x) → length xs ≤ length all
once_few [] all once there = omega arith
once_few {X} (x ∷ xs) all once there =
    let (n, at) = there x (zero, refl) in
    let behind : EachOnce xs = λ i j y at_i at_j. let same = once (suc i) (suc j) y at_i at_j in omega (arith, same) in
    let apart : (k m : ℕ) (y : X) → At xs k y → At all m y → m ≡ n → ⊥ =
    λ k m y at_k at_m same. let is : y ≡ x = at_one all n y x (subst (λ (i : ℕ). At all i y) same at_m) at in
    let twice = once (suc k) zero x (subst (At xs k) is at_k) refl in
    omega (arith, twice) in
    let fewer = once_few xs (without n all) behind (λ y has. let (m, at_m) = there y (suc has.0, has.1) in without_has n all m y (apart has.0 m y has.1 at_m) at_m) in
    omega (arith, fewer, length_without n all x at)

pub at_most : {X : Type 0} (P : X → Type 0) (xs : List X) (n : ℕ) → EachOnce xs → Each P xs → AtMost n P → length xs ≤ n
at_most P xs n once each (all, few, has) =
    let fewer = once_few xs all once (λ x there. has x (each there.0 x there.1)) in
    omega (arith, fewer, few)

-- ---- a content more in a table

given_once : {X : Type 0} (xs : List X) (x : X) (g : Given) → EachOnce xs → Offers xs x g → EachOnce (with_given xs x g)
given_once xs x (Known id) once is = once
given_once xs x (New id) once is = λ m n y at_m at_n. elim (at_more xs x m y at_m) [
  | inl first ↦ elim (at_more xs x n y at_n) [
    | inl second ↦ once m n y first second
    | inr last ↦ absurd (is.0 m (subst (At xs m) last.1 first))
  ]
  | inr late ↦ elim (at_more xs x n y at_n) [
    | inl second ↦ absurd (is.0 n (subst (At xs n) late.1 second))
    | inr last ↦ late.0 ∙ sym last.0
  ]
]

given_to_once : {X : Type 0} (xs : List X) (o : Option X) (g : Option Given) → EachOnce xs → OffersTo xs o g → EachOnce (with_given_to xs o g)
given_to_once xs None g once is = once
given_to_once xs (Some x) None once is = once
given_to_once xs (Some x) (Some g) once is = given_once xs x g once is

next_schema : (t : tables.IdContents) (o : Option SchemaDef) → (g : Option Given) × OffersTo t.schemas o g
next_schema t None = (None, tt)
next_schema t (Some s) = by (schema_place (ids_in t) s) refl
  where
    by : (place : Option ℕ) → schema_place (ids_in t) s ≡ place → (g : Option Given) × OffersTo t.schemas (Some s) g
    by (Some k) e =
        let back : k + 1 - 1 ≡ k = omega arith in
        (Some (Known (k + 1)), (omega arith, subst (λ (n : ℕ). At t.schemas n s) (sym back) (schema_stands t s k e)))
    by None e = (Some (New (length t.schemas + 1)), (schema_missed t s e, refl))

-- the ids that a new content gets
pub record NextIds (t : tables.IdContents) (d : ChannelDef) : Type 0 where
  pub given : GivenIds
  pub after : tables.IdContents
  pub declares : Declares t d given after
  pub id : id_given given.channel ≡ length after.channels

next_ids : (t : tables.IdContents) (d : ChannelDef) → channel_place (ids_in t) d ≡ None → NextIds t d
next_ids t d none =
    let schema = next_schema t d.schema in
    let channel = New (length t.channels + 1) in
    record {
      given = record { schema = schema.0; channel = channel };
      after = record { schemas = with_given_to t.schemas d.schema schema.0; channels = t.channels ++ d ∷ [] };
      declares = record { schema = schema.1; channel = (channel_missed t d none, refl); schemas = refl; channels = refl };
      id = sym (length-append t.channels (d ∷ []));
    }

-- the schema's id is one of the table's
schema_small : (schemas : List SchemaDef) (o : Option SchemaDef) (g : Option Given) → OffersTo schemas o g → length (with_given_to schemas o g) ≤ 65535 → id_of g < 65536
schema_small schemas None None is few = omega arith
schema_small schemas None (Some g) is few = absurd is
schema_small schemas (Some s) None is few = absurd is
schema_small schemas (Some s) (Some (Known id)) is few =
    let within = at_within schemas (id - 1) s is.1 in
    omega (arith, within, few, is.0)
schema_small schemas (Some s) (Some (New id)) is few = omega (arith, is.1, few, length-append schemas (s ∷ []))

-- ---- the table of a history

pub record TableStands (inputs : List (List Top)) (history : List Rec) (t : tables.IdContents) : Type 0 where
  pub ids_are : ids_in t ≡ ids_of history
  pub has : HasSchemas t
  pub once_schemas : EachOnce t.schemas
  pub once_channels : EachOnce t.channels
  pub used : TableIsUsed inputs t

table_none : (inputs : List (List Top)) → TableStands inputs [] (record { schemas = []; channels = [] })
table_none inputs = record {
  ids_are = refl;
  has = λ n c at. absurd (at_none n c at);
  once_schemas = λ m n x at_m at_n. absurd (at_none m x at_m);
  once_channels = λ m n x at_m at_n. absurd (at_none m x at_m);
  used = used_none inputs (record { schemas = []; channels = [] }) refl refl;
}

-- what a use comes to: the table behind its records, and that these are read back
record Follows (inputs : List (List Top)) (history : List Rec) (d : ChannelDef) : Type 0 where
  after : tables.IdContents
  stands : TableStands inputs (history ++ new_records (ids_of history) d) after
  back : Each IsReadBack (new_records (ids_of history) d)
  small : channel_id (ids_of history) d < 65536

module _ (inputs : List (List Top)) (suffice : IdsSuffice inputs) (history : List Rec) (d : ChannelDef) (used : IsUsed inputs d) (fits : FitsUnderIds d) where
  follows_known : (t : tables.IdContents) (k : ℕ) → TableStands inputs history t → channel_place (ids_in t) d ≡ Some k → Follows inputs history d
  follows_known t k stands e =
      let same = stands.ids_are in
      let there : channel_place (ids_of history) d ≡ Some k = sym (ap (λ (x : Ids). channel_place x d) same) ∙ e in
      let none : new_records (ids_of history) d ≡ [] = ap (λ (o : Option ℕ). new_at o (ids_of history) d) there in
      let finds = found (same_channel (fields_of_channel (ids_in t) d)) (ids_in t).channels k e in
      let within = at_within (ids_in t).channels k finds.element finds.at in
      let few : length t.channels ≤ 65535 = at_most (IsUsed inputs) t.channels 65535 stands.once_channels stands.used.channels suffice.channels in
      let id : channel_id (ids_of history) d ≡ k + 1 = ap (λ (o : Option ℕ). id_at o (length (ids_of history).channels)) there in
      record {
        after = t;
        stands = record {
          ids_are = same ∙ sym (ap ids_of (ap (λ (l : List Rec). history ++ l) none ∙ append-nil history));
          has = stands.has;
          once_schemas = stands.once_schemas;
          once_channels = stands.once_channels;
          used = stands.used;
        };
        back = subst (Each IsReadBack) (sym none) none_back;
        small = omega (arith, id, within, few, length-map t.channels (content_in (ids_in t).schemas));
      }

  follows_new : (t : tables.IdContents) → TableStands inputs history t → channel_place (ids_in t) d ≡ None → Follows inputs history d
  follows_new t stands e =
      let next = next_ids t d e in
      let given = next.given in
      let after = next.after in
      let declares = next.declares in
      let now : TableIsUsed inputs after = used_given inputs t after d given declares used stands.used in
      let once_schemas : EachOnce after.schemas = subst EachOnce (sym declares.schemas) (given_to_once t.schemas d.schema given.schema stands.once_schemas declares.schema) in
      let once_channels : EachOnce after.channels = subst EachOnce (sym declares.channels) (given_once t.channels d given.channel stands.once_channels declares.channel) in
      let few_schemas : length after.schemas ≤ 65535 = at_most (SchemaIsUsed inputs) after.schemas 65535 once_schemas now.schemas suffice.schemas in
      let few_channels : length after.channels ≤ 65535 = at_most (IsUsed inputs) after.channels 65535 once_channels now.channels suffice.channels in
      let answers = answers_by t after d (Ok given) stands.has stands.once_schemas e few_schemas few_channels declares tt tt in
      let declared = answers.declared in
      let gives = declared.1 in
      let id = id_given given.channel in
      let schema = id_of given.schema in
      let small : id < 65536 = omega (arith, next.id, few_channels) in
      let schema_is_small : schema < 65536 = schema_small t.schemas d.schema given.schema declares.schema (subst (λ (l : List SchemaDef). length l ≤ 65535) declares.schemas few_schemas) in
      let (channel_fits, schema_fits) = fits id schema small schema_is_small in
      let whole : Declared = record { content = d; ids = given } in
      let records : declaring_records whole ≡ new_records (ids_of history) d = given_records (ids_in t) d given e gives ∙ ap (λ (x : Ids). new_records x d) stands.ids_are in
      record {
        after = after;
        stands = record {
          ids_are = declared.2 ∙ ap (λ (x : Ids). with_ids x (new_records x d)) stands.ids_are ∙ sym (ids_more history (new_records (ids_of history) d));
          has = answers.schemas;
          once_schemas = once_schemas;
          once_channels = once_channels;
          used = now;
        };
        back = subst (Each IsReadBack) records (records_back whole id schema refl refl channel_fits schema_fits);
        small = subst (λ (n : ℕ). n < 65536) (given_id (ids_in t) d given e gives ∙ ap (λ (x : Ids). channel_id x d) stands.ids_are) small;
      }

  follows : (t : tables.IdContents) → TableStands inputs history t → Follows inputs history d
  follows t stands = by (channel_place (ids_in t) d) refl
    where
      by : (place : Option ℕ) → channel_place (ids_in t) d ≡ place → Follows inputs history d
      by (Some k) e = follows_known t k stands e
      by None e = follows_new t stands e

-- ---- all uses

-- its content is that of a channel that has messages, and its message is read back under each id
pub record IsWholeUse (inputs : List (List Top)) (u : Use) : Type 0 where
  pub used : IsUsed inputs u.content
  pub fits : FitsUnderIds u.content
  pub back : (id : ℕ) → id < 65536 → Each IsReadBack (message_of id u.message ∷ [])

back_from : (inputs : List (List Top)) (uses : List Use) (history : List Rec) (t : tables.IdContents) → IdsSuffice inputs → TableStands inputs history t → Each IsReadBack history → Each (IsWholeUse inputs) uses → Each IsReadBack (fold with_use history uses)
back_from inputs [] history t suffice stands back whole = back
back_from inputs (u ∷ us) history t suffice stands back whole =
    let one = whole zero u refl in
    let d = u.content in
    let next = follows inputs suffice history d one.used one.fits t stands in
    let new = new_records (ids_of history) d in
    let id = channel_id (ids_of history) d in
    let message = message_of id u.message in
    let assoc : (history ++ new) ++ message ∷ [] ≡ with_use history u = append_assoc history new (message ∷ []) in
    let there = next.stands in
    let behind : TableStands inputs ((history ++ new) ++ message ∷ []) next.after = record {
      ids_are = there.ids_are ∙ sym (ids_behind (history ++ new) id u.message);
      has = there.has;
      once_schemas = there.once_schemas;
      once_channels = there.once_channels;
      used = there.used;
    } in
    let last = one.back in
    back_from inputs us (with_use history u) next.after suffice (subst (λ (h : List Rec). TableStands inputs h next.after) assoc behind)
    (each_joined IsReadBack history (added_by history u) back (each_joined IsReadBack new (message ∷ []) next.back (last id next.small))) (λ n v at. whole (suc n) v at)

pub history_back : (inputs : List (List Top)) (uses : List Use) → IdsSuffice inputs → Each (IsWholeUse inputs) uses → Each IsReadBack (history_of uses)
history_back inputs uses suffice whole = back_from inputs uses [] (record { schemas = []; channels = [] }) suffice (table_none inputs) none_back whole
