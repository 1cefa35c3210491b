-- A file can be written of what is written of the history that repairing makes of good records.
use Rattle.std.proofs.Common.{◌≡◌, ◌⊎◌, ℕ, suc, zero, Bool, true, false, ◌||◌, List, [], ◌∷◌, map, take, Some, refl, sym, ap, subst, inl, inr, ◌∙◌}
use Rattle.std.specs.Prelude.{find, is_some, eqb}
use Rattle.std.proofs.lemmas.Bool.{both_ways, eqb-true}
use Rattle.std.proofs.lemmas.Option.{same_Some}
use Rattle.rec_data.specs.declared.owned.Rec.{Rec}
use Rattle.rec_data.specs.declared.owned.Rec.TheVariants.{Schema, Channel, Message, Extra}
use Rattle.rec_data.proofs.OwnedReading.{rec_shown, shown_once}
use Rattle.mcap_model.specs.Places.{At, Has, Each, EachBehind}
use Rattle.mcap_model.specs.Tops.{Top, is_flat_kind, unchunked, flattened, flat}
use Rattle.mcap_model.specs.Fields.{SchemaFields, ChannelFields, SameChannel, IsSchema, IsChannel}
use Rattle.mcap_model.specs.Rules.{V6, HasSchema, HasChannel, Agrees}
use Rattle.mcap_model.specs.Kept.{Good, reading_limits}
use Rattle.mcap_model.specs.History.{rec_top, schema_of, channel_of, is_inner}
use Rattle.mcap_model.specs.ReadBack.{IsReadBack}
use Rattle.mcap_model.specs.Written.{IsRec}
use Rattle.mcap_model.specs.Repaired.{Repairs}
use Rattle.mcap_model.specs.Laws.{IsNumberedRec, IsInner}
use Rattle.mcap_model.specs.Needed.{is_schema_of, is_channel_of}
use Rattle.mcap_model.proofs.Places.{at_none}
use Rattle.mcap_model.proofs.Lists.{each_joined, each_taken, filter_passed}
use Rattle.mcap_model.proofs.Asides.{body_whole}
use Rattle.mcap_model.proofs.Copies.{channel_refl}
use Rattle.mcap_model.proofs.Distinct.{rec_id, repeats_are}
use Rattle.mcap_model.proofs.Flat.{good_lists_agree, at_mapped}
use Rattle.mcap_model.proofs.Histories.{schema_shown, channel_shown, recs_are_flat, extra_not_flat}
use Rattle.mcap_model.proofs.NamedTopics.{zip_back}
use Rattle.mcap_model.proofs.ReadBack.{schema_back, channel_back, message_back, at_map}
use Rattle.mcap_filter.specs.Picked.{filtered}
use Rattle.mcap_filter.specs.Picking.{is_complete}
use Rattle.mcap_filter.specs.FilteredHistories.{FilteredHistoriesStand}
use Rattle.mcap_filter.proofs.Finding.{find_there, some_is}
use Rattle.mcap_filter.proofs.Completing.{complete_whole}
use Rattle.mcap_filter.proofs.FirstOfIds.{IsFirst, first_there, AreFirst, filtered_first, filtered_once}

-- ---- what repairing makes of good records

read_back : (u : Top) (r : Rec) → IsRec u r → IsReadBack r
read_back u (Schema id s) is = rec_shown (Schema id s) is.1.1.fit
read_back u (Channel id s topic encoding metadata) is = rec_shown (Channel id s topic encoding metadata) is.1.1.fit
read_back u (Message c n l p d) is = rec_shown (Message c n l p d) is.1.fit
read_back u (Extra op content) is = rec_shown (Extra op content) is.2

numbered_on : (u : Top) (r : Rec) → IsRec u r → V6 u → IsNumberedRec r
numbered_on u r shows meets id f same none =
    let there : IsRec u (schema_of id f) = subst (IsRec u) same shows in
    let (own, g, is) = meets.schema there.0 in
    let ids : id ≡ own = ap rec_id (shown_once u.op u.content (schema_of id f) (schema_of own g) there (is.kind, is.layout)) in
    is.some (sym ids ∙ none)

flat_kinds : (tops : List Top) → Each (λ u. is_flat_kind u ≡ true) (flat tops)
flat_kinds [] = λ n u at. absurd (at_none n u at)
flat_kinds (t ∷ ts) = each_joined (λ u. is_flat_kind u ≡ true) (flattened t) (flat ts) (λ n u at. (filter_passed is_flat_kind (unchunked t) n u at).1) (flat_kinds ts)

inner_of : (u : Top) (r : Rec) → is_flat_kind u ≡ true → IsRec u r → is_inner r ≡ true
inner_of u (Schema id s) kind is = refl
inner_of u (Channel id s topic encoding metadata) kind is = refl
inner_of u (Message c n l p d) kind is = refl
inner_of u (Extra op content) kind is =
    let same : is_flat_kind u ≡ is_flat_kind (record { op = op; content = content }) = ap (λ (k : ℕ). is_flat_kind (record { op = k; content = content })) is.0 in
    absurd (both_ways (is_flat_kind u) (same ∙ extra_not_flat op content is.2) kind)

-- a record that stands there is one of the flat records
pub repaired_is : (tops extras : List Top) (profile : List ℕ) (history : List Rec) (r : Rec) → Repairs tops profile extras history → Has history r → (n : ℕ) × (u : Top) × At (flat tops) n u × IsRec u r
repaired_is tops extras profile history r repairs has =
    let was = repeats_are repairs.flattened r (has.0, subst (λ (l : List Rec). At l has.0 r) repairs.history_is has.1) in
    let (u, at, is) = zip_back IsRec (flat tops) repairs.flattened was.0 r repairs.are_flattened was.1 in
    (was.0, u, at, is)

-- what each of its records is
record IsRight (r : Rec) : Type 0 where
  back : IsReadBack r
  numbered : IsNumberedRec r
  inner : IsInner r

repaired_right : (tops extras : List Top) (profile : List ℕ) (history : List Rec) → Good reading_limits tops → Repairs tops profile extras history → (r : Rec) → Has history r → IsRight r
repaired_right tops extras profile history good repairs r has =
    let (n, u, at, is) = repaired_is tops extras profile history r repairs has in record {
      back = read_back u r is;
      numbered = numbered_on u r is ((good_lists_agree reading_limits tops good).0 n u at);
      inner = inner_of u r (flat_kinds tops n u at) is;
    }

-- ---- the ids agree

has_schema : (out : List Rec) (id : ℕ) → Each IsReadBack out → Each IsNumberedRec out → is_some (find (is_schema_of id) out) ≡ true → HasSchema (map rec_top out) id
has_schema out id backs some there = let (r, is) = some_is (find (is_schema_of id) out) there in by r is
  where
    by : (r : Rec) → find (is_schema_of id) out ≡ Some r → HasSchema (map rec_top out) id
    by (Schema i s) is =
        let f : SchemaFields = record { name = s.name; encoding = s.encoding; payload = s.payload } in
        let (n, at, test) = find_there (is_schema_of id) out (Schema i s) is in
        subst (HasSchema (map rec_top out)) (sym (eqb-true id i test)) (record {
          place = n;
          top = rec_top (Schema i s);
          shown = f;
          at = at_mapped rec_top out n (Schema i s) at;
          is = schema_shown i f (backs n (Schema i s) at) (some n (Schema i s) at i f refl);
        })
    by (Channel i s topic encoding metadata) is = let (n, at, test) = find_there (is_schema_of id) out (Channel i s topic encoding metadata) is in absurd (both_ways false refl test)
    by (Message c sequence log_time publish_time payload) is = let (n, at, test) = find_there (is_schema_of id) out (Message c sequence log_time publish_time payload) is in absurd (both_ways false refl test)
    by (Extra op content) is = let (n, at, test) = find_there (is_schema_of id) out (Extra op content) is in absurd (both_ways false refl test)

has_channel : (out : List Rec) (id : ℕ) → Each IsReadBack out → is_some (find (is_channel_of id) out) ≡ true → HasChannel (map rec_top out) id
has_channel out id backs there = let (r, is) = some_is (find (is_channel_of id) out) there in by r is
  where
    by : (r : Rec) → find (is_channel_of id) out ≡ Some r → HasChannel (map rec_top out) id
    by (Channel i s topic encoding metadata) is =
        let f : ChannelFields = record { schema = s; topic = topic; encoding = encoding; metadata = metadata } in
        let (n, at, test) = find_there (is_channel_of id) out (Channel i s topic encoding metadata) is in
        subst (HasChannel (map rec_top out)) (sym (eqb-true id i test)) (record {
          place = n;
          top = rec_top (Channel i s topic encoding metadata);
          shown = f;
          at = at_mapped rec_top out n (Channel i s topic encoding metadata) at;
          is = channel_shown i f (backs n (Channel i s topic encoding metadata) at);
        })
    by (Schema i s) is = let (n, at, test) = find_there (is_channel_of id) out (Schema i s) is in absurd (both_ways false refl test)
    by (Message c sequence log_time publish_time payload) is = let (n, at, test) = find_there (is_channel_of id) out (Message c sequence log_time publish_time payload) is in absurd (both_ways false refl test)
    by (Extra op content) is = let (n, at, test) = find_there (is_channel_of id) out (Extra op content) is in absurd (both_ways false refl test)

-- a declaration is the first of its id
first_schema : (history : List Rec) (r : Rec) (id : ℕ) (f : SchemaFields) → r ≡ schema_of id f → IsFirst history r → find (is_schema_of id) history ≡ Some (schema_of id f)
first_schema history r id f is first = subst (IsFirst history) is first

first_channel : (history : List Rec) (r : Rec) (id : ℕ) (f : ChannelFields) → r ≡ channel_of id f → IsFirst history r → find (is_channel_of id) history ≡ Some (channel_of id f)
first_channel history r id f is first = subst (IsFirst history) is first

abbrev schema_fields_in : SchemaFields → Rec → SchemaFields
schema_fields_in other (Schema id s) = record { name = s.name; encoding = s.encoding; payload = s.payload }
schema_fields_in other (Channel id schema topic encoding metadata) = other
schema_fields_in other (Message channel sequence log_time publish_time payload) = other
schema_fields_in other (Extra op content) = other

abbrev channel_fields_in : ChannelFields → Rec → ChannelFields
channel_fields_in other (Schema id s) = other
channel_fields_in other (Channel id schema topic encoding metadata) = record { schema = schema; topic = topic; encoding = encoding; metadata = metadata }
channel_fields_in other (Message channel sequence log_time publish_time payload) = other
channel_fields_in other (Extra op content) = other

-- what a record names stands among these
names_schema : (out : List Rec) (id : ℕ) (f : ChannelFields) → Each IsReadBack out → Each IsNumberedRec out → is_complete out (channel_of id f) ≡ true → (f.schema ≡ 0) ⊎ HasSchema (map rec_top out) f.schema
names_schema out id f backs some there = by (eqb f.schema 0) refl there
  where
    by : (b : Bool) → eqb f.schema 0 ≡ b → (b || is_some (find (is_schema_of f.schema) out)) ≡ true → (f.schema ≡ 0) ⊎ HasSchema (map rec_top out) f.schema
    by true none is = inl (eqb-true f.schema 0 none)
    by false other is = inr (has_schema out f.schema backs some is)

module _ (history out : List Rec) (backs : Each IsReadBack out) (some : Each IsNumberedRec out) (firsts : Each (IsFirst history) out) where
  agrees_so : (r : Rec) → IsReadBack r → IsFirst history r → is_complete out r ≡ true → Agrees (map rec_top out) (rec_top r)
  agrees_so r own first named = record {
    schemas = λ id f g n u is at other.
        let (k, here, same) = at_map rec_top out n u at in
        let mine = first_schema history r id f (schema_back r id f own is) first in
        let theirs = first_schema history k id g (schema_back k id g (backs n k here) (subst (λ (t : Top). IsSchema t id g) same other)) (firsts n k here) in
        ap (schema_fields_in f) (same_Some (schema_of id g) (schema_of id f) (sym theirs ∙ mine));
    channels = λ id f g n u is at other.
        let (k, here, same) = at_map rec_top out n u at in
        let mine = first_channel history r id f (channel_back r id f own is) first in
        let theirs = first_channel history k id g (channel_back k id g (backs n k here) (subst (λ (t : Top). IsChannel t id g) same other)) (firsts n k here) in
        let one : g ≡ f = ap (channel_fields_in f) (same_Some (channel_of id g) (channel_of id f) (sym theirs ∙ mine)) in
        subst (λ (h : ChannelFields). SameChannel h f) (sym one) (channel_refl f);
    schema = λ id f is. names_schema out id f backs some (subst (λ (x : Rec). is_complete out x ≡ true) (channel_back r id f own is) named);
    channel = λ id m is. has_channel out id backs (subst (λ (x : Rec). is_complete out x ≡ true) (message_back r id m own is) named);
  }

take_mapped : (rs : List Rec) (n : ℕ) → take n (map rec_top rs) ≡ map rec_top (take n rs)
take_mapped rs zero = refl
take_mapped [] (suc n) = refl
take_mapped (r ∷ rs) (suc n) = ap (λ (l : List Top). rec_top r ∷ l) (take_mapped rs n)

first_agree : (history out : List Rec) → Each IsReadBack out → Each IsNumberedRec out → AreFirst history out → EachBehind Agrees (map rec_top out)
first_agree history out backs some are n t at =
    let (r, there, same) = at_map rec_top out n t at in
    let agrees = agrees_so history (take n out) (each_taken IsReadBack out n backs) (each_taken IsNumberedRec out n some) (each_taken (IsFirst history) out n are.firsts) r (backs n r there) (are.firsts n r there) (are.named n r there) in
    subst (λ (l : List Top). Agrees l t) (sym (take_mapped out n)) (subst (Agrees (map rec_top (take n out))) (sym same) agrees)

-- ---- the law

pub filtered_histories_stand : FilteredHistoriesStand
filtered_histories_stand a tops extras profile history good repairs =
    let out = filtered a history in
    let are = filtered_first a history (complete_whole tops extras profile history good repairs) in
    let right : (n : ℕ) (r : Rec) → At out n r → IsRight r = λ n r at. repaired_right tops extras profile history good repairs r (first_there history r (are.firsts n r at)) in
    let backs : Each IsReadBack out = λ n r at. (right n r at).back in
    let some : Each IsNumberedRec out = λ n r at. (right n r at).numbered in
    let inner : Each IsInner out = λ n r at. (right n r at).inner in
    record {
      back = backs;
      numbered = some;
      inner = inner;
      ids_agree = subst (EachBehind Agrees) (sym (recs_are_flat out backs ∙ ap (map rec_top) (body_whole out inner))) (first_agree history out backs some are);
      once = filtered_once a history;
    }
