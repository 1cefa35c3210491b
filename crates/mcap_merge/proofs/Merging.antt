-- The history of messages with the contents of their channels is a merge.
use Rattle.std.proofs.Common.{◌≡◌, ◌⊎◌, ℕ, zero, suc, ◌+◌, true, List, [], ◌∷◌, ◌++◌, length, take, fold, Option, Some, None, refl, sym, ap, subst, inl, inr, ◌∙◌, append_assoc, append-nil, arith}
use Rattle.std.specs.Prelude.{filter}
use Rattle.std.specs.List.{AllZip}
use Rattle.std.proofs.lemmas.List.Elements.{filter-append}
use Rattle.rec_data.specs.declared.owned.Rec.{Rec}
use Rattle.rec_data.specs.declared.schema.SchemaDef.{SchemaDef}
use Rattle.rec_data.specs.declared.channel.ChannelDef.{ChannelDef}
use Rattle.rec_data.specs.Owned.{def_fields}
use Rattle.mcap_model.specs.Places.{At, Each}
use Rattle.mcap_model.specs.Tops.{Top, flat}
use Rattle.mcap_model.specs.Fields.{SchemaFields, ChannelFields, MessageFields}
use Rattle.mcap_model.specs.History.{schema_of, channel_of, message_of, is_message, is_inner, ChannelFollows, MessageFollows, Follows, Numbered}
use Rattle.mcap_model.specs.Written.{SchemaIs}
use Rattle.mcap_model.proofs.Places.{at_none, at_one, at_kept, at_last, each_more}
use Rattle.mcap_model.proofs.Lists.{at_either, at_second, each_joined, has_taken}
use Rattle.mcap_model.proofs.OneMore.{zip_push, each_last}
use Rattle.mcap_model.proofs.ReadBack.{schema_id_below}
use Rattle.history_ids.specs.Ids.{Ids, ids_of, schemas_in, channels_in, same_schema, same_channel, fields_of_channel, schema_place, id_at, schema_id, channel_place, channel_id, new_schema_at, new_schema, new_at, new_records}
use Rattle.history_ids.specs.DeclarationFields.{fields_of_schema}
use Rattle.history_ids.proofs.Searches.{found, schema_same, channel_same, schemas_counted}
use Rattle.history_ids.proofs.Numbering.{schema_at, channel_at, declared_numbered}
use Rattle.mcap_model.specs.Merged.{Sent, IsMerged, IsUseOf, StandBeforeUse, SchemaContent}
use Rattle.mcap_merge.specs.Uses.{Use, added_by, with_use, history_of, IsUse, AreUses}

-- ---- where contents stand

known_schema : (h : List Rec) (s : SchemaDef) (k : ℕ) → Numbered h → schema_place (ids_of h) s ≡ Some k → (n : ℕ) × At h n (schema_of (k + 1) (fields_of_schema s))
known_schema h s k numbered e =
    let f = fields_of_schema s in
    let there = found (same_schema f) (schemas_in h) k e in
    let same : f ≡ there.element = schema_same f there.element there.passes in
    let stands = schema_at h k there.element numbered there.at in
    (stands.0, subst (λ (g : SchemaFields). At h stands.0 (schema_of (k + 1) g)) (sym same) stands.1)

known_channel : (h : List Rec) (d : ChannelDef) (k : ℕ) → Numbered h → channel_place (ids_of h) d ≡ Some k → (n : ℕ) × At h n (channel_of (k + 1) (fields_of_channel (ids_of h) d))
known_channel h d k numbered e =
    let f = fields_of_channel (ids_of h) d in
    let there = found (same_channel f) (channels_in h) k e in
    let same : f ≡ there.element = channel_same f there.element there.passes in
    let stands = channel_at h k there.element numbered there.at in
    (stands.0, subst (λ (g : ChannelFields). At h stands.0 (channel_of (k + 1) g)) (sym same) stands.1)

-- the channel stands behind what its declaration adds
channel_spot : (h : List Rec) (d : ChannelDef) (place : Option ℕ) → Numbered h → channel_place (ids_of h) d ≡ place
    → (n : ℕ) × At (h ++ new_at place (ids_of h) d) n (channel_of (id_at place (length (channels_in h))) (fields_of_channel (ids_of h) d))
channel_spot h d (Some k) numbered e =
    let known = known_channel h d k numbered e in
    (known.0, at_kept h [] known.0 (channel_of (k + 1) (fields_of_channel (ids_of h) d)) known.1)
channel_spot h d None numbered e =
    let before = new_schema (ids_of h) d.schema in
    let channel = channel_of (length (channels_in h) + 1) (fields_of_channel (ids_of h) d) in
    (length (h ++ before), subst (λ (l : List Rec). At l (length (h ++ before)) channel) (append_assoc h before (channel ∷ [])) (at_last (h ++ before) channel []))

abbrev SchemaSpot : List Rec → ChannelDef → Option ℕ → SchemaDef → Option ℕ → Type 0
SchemaSpot h d place s spot = (n : ℕ) × At (h ++ new_at place (ids_of h) d) n (schema_of (id_at spot (length (schemas_in h))) (fields_of_schema s))

-- a channel that is known has a schema that is known
unknown_schema : (h : List Rec) (d : ChannelDef) (k : ℕ) (s : SchemaDef) → Numbered h → channel_place (ids_of h) d ≡ Some k → schema_place (ids_of h) s ≡ None → d.schema ≡ Some s → ⊥
unknown_schema h d k s numbered e none is =
    let f = fields_of_channel (ids_of h) d in
    let next : f.schema ≡ length (schemas_in h) + 1 = ap (schema_id (ids_of h)) is ∙ ap (λ (o : Option ℕ). id_at o (length (schemas_in h))) none in
    let known = known_channel h d k numbered e in
    let follows : ChannelFollows (take known.0 h) (k + 1) f = numbered known.0 (channel_of (k + 1) f) known.1 in
    elim follows.schema [
      | inl nothing ↦ omega (arith, nothing, next)
      | inr (n, g, at) ↦
          let there = has_taken h known.0 n (schema_of f.schema g) at in
          let below = schema_id_below h n f.schema g numbered there.1 in
          omega (arith, below, next, schemas_counted h)
    ]

schema_spot : (h : List Rec) (d : ChannelDef) (place : Option ℕ) (s : SchemaDef) (spot : Option ℕ) → Numbered h → channel_place (ids_of h) d ≡ place → schema_place (ids_of h) s ≡ spot → d.schema ≡ Some s → SchemaSpot h d place s spot
schema_spot h d place s (Some k) numbered e there is =
    let known = known_schema h s k numbered there in
    (known.0, at_kept h (new_at place (ids_of h) d) known.0 (schema_of (k + 1) (fields_of_schema s)) known.1)
schema_spot h d (Some k) s None numbered e there is = absurd (unknown_schema h d k s numbered e there is)
schema_spot h d None s None numbered e there is =
    let ids = ids_of h in
    let channel = channel_of (length (channels_in h) + 1) (fields_of_channel ids d) in
    let schema = schema_of (length (schemas_in h) + 1) (fields_of_schema s) in
    let first : new_schema ids d.schema ≡ schema ∷ [] = ap (new_schema ids) is ∙ ap (λ (o : Option ℕ). new_schema_at o (length (schemas_in h)) s) there in
    (length h, subst (λ (l : List Rec). At (h ++ (l ++ channel ∷ [])) (length h) schema) (sym first) (at_last h schema (channel ∷ [])))

-- ---- what is added

-- no message is declared
pub no_message : (ids : Ids) (d : ChannelDef) (place : Option ℕ) → filter is_message (new_at place ids d) ≡ []
no_message ids d (Some k) = refl
no_message ids d None = filter-append is_message (new_schema ids d.schema) _ ∙ ap (λ (l : List Rec). l ++ []) (none_first d.schema)
  where
    none_at : (spot : Option ℕ) (count : ℕ) (s : SchemaDef) → filter is_message (new_schema_at spot count s) ≡ []
    none_at (Some k) count s = refl
    none_at None count s = refl

    none_first : (o : Option SchemaDef) → filter is_message (new_schema ids o) ≡ []
    none_first None = refl
    none_first (Some s) = none_at (schema_place ids s) (length ids.schemas) s

-- each but the last comes before its use
abbrev Leads : List Rec → Type 0
Leads [] = Unit {0}
Leads (r ∷ []) = is_message r ≡ true
Leads (r ∷ next ∷ rs) = ((is_message r ≡ true) ⊎ IsUseOf r next) × Leads (next ∷ rs)

leads_stand : (rs : List Rec) → Leads rs → StandBeforeUse rs
leads_stand [] leads n r at = absurd (at_none n r at)
leads_stand (x ∷ []) leads zero r at = inl (subst (λ (y : Rec). is_message y ≡ true) (at_one (x ∷ []) zero x r refl at) leads)
leads_stand (x ∷ []) leads (suc n) r at = absurd (at_none n r at)
leads_stand (x ∷ y ∷ rs) leads zero r at =
    let same : x ≡ r = at_one (x ∷ y ∷ rs) zero x r refl at in
    elim leads.0 [
      | inl message ↦ inl (subst (λ (z : Rec). is_message z ≡ true) same message)
      | inr is ↦ inr (y, refl, subst (λ (z : Rec). IsUseOf z y) same is)
    ]
leads_stand (x ∷ y ∷ rs) leads (suc n) r at = leads_stand (y ∷ rs) leads.1 n r at

stand_joined : (one other : List Rec) → StandBeforeUse one → StandBeforeUse other → StandBeforeUse (one ++ other)
stand_joined one other first second n r at = elim (at_either one other n r at) [
  | inl here ↦ elim (first n r here) [
    | inl message ↦ inl message
    | inr (next, there, is) ↦ inr (next, at_kept one other (suc n) next there, is)
  ]
  | inr (k, place, here) ↦ elim (second k r here) [
    | inl message ↦ inl message
    | inr (next, there, is) ↦
        let later : length one + suc k ≡ suc n = omega (arith, place) in
        inr (next, subst (λ (m : ℕ). At (one ++ other) m next) later (at_second one other (suc k) next there), is)
  ]
]

added_leads : (h : List Rec) (d : ChannelDef) (m : MessageFields) (place : Option ℕ) → Leads (new_at place (ids_of h) d ++ message_of (id_at place (length (channels_in h))) m ∷ [])
added_leads h d m (Some k) = refl
added_leads h d m None = by d.schema refl
  where
    channel : Rec
    channel = channel_of (length (channels_in h) + 1) (fields_of_channel (ids_of h) d)

    message : Rec
    message = message_of (length (channels_in h) + 1) m

    at_spot : (s : SchemaDef) (spot : Option ℕ) → d.schema ≡ Some s → schema_place (ids_of h) s ≡ spot → Leads ((new_schema_at spot (length (schemas_in h)) s ++ channel_of (length (channels_in h) + 1) (fields_of_channel (ids_of h) d) ∷ []) ++ message_of (length (channels_in h) + 1) m ∷ [])
    at_spot s (Some k) is there = (inr refl, refl)
    at_spot s None is there = (inr (ap (schema_id (ids_of h)) is ∙ ap (λ (o : Option ℕ). id_at o (length (schemas_in h))) there), (inr refl, refl))

    by : (o : Option SchemaDef) → d.schema ≡ o → Leads ((new_schema (ids_of h) o ++ channel_of (length (channels_in h) + 1) (fields_of_channel (ids_of h) d) ∷ []) ++ message_of (length (channels_in h) + 1) m ∷ [])
    by None is = (inr refl, refl)
    by (Some s) is = at_spot s (schema_place (ids_of h) s) is refl

-- ---- a message more

pub record Merges (inputs : List (List Top)) (messages : List Sent) (history : List Rec) : Type 0 where
  pub numbered : Numbered history
  pub merged : AllZip (IsMerged inputs history) messages (filter is_message history)
  pub placed : StandBeforeUse history

schema_more : (records : List Top) (h more : List Rec) (one other : ℕ) → SchemaIs records h one other → SchemaIs records (h ++ more) one other
schema_more records h more one other (inl none) = inl none
schema_more records h more one other (inr same) = inr (record {
  place = same.place;
  top = same.top;
  shown = same.shown;
  at = same.at;
  is = same.is;
  there = same.there;
  stands = at_kept h more same.there (schema_of other same.shown) same.stands;
})

merged_more : (inputs : List (List Top)) (h more : List Rec) (m : Sent) (r : Rec) → IsMerged inputs h m r → IsMerged inputs (h ++ more) m r
merged_more inputs h more m r is =
    let same = is.same in
    record {
      tops = is.tops;
      at = is.at;
      shown = is.shown;
      known = is.known;
      channel = is.channel;
      written = is.written;
      same = record { schema = schema_more (flat is.tops) h more is.shown.schema is.written.schema same.schema; topic = same.topic; encoding = same.encoding; metadata = same.metadata };
      declared = (is.declared.0, at_kept h more is.declared.0 (channel_of is.channel is.written) is.declared.1);
      is = is.is;
    }

pub zip_weaker : {A B : Type 0} (R S : A → B → Type 0) (xs : List A) (ys : List B) → ((a : A) (b : B) → R a b → S a b) → AllZip R xs ys → AllZip S xs ys
zip_weaker R S [] [] each zip = tt
zip_weaker R S [] (y ∷ ys) each zip = absurd zip
zip_weaker R S (x ∷ xs) [] each zip = absurd zip
zip_weaker R S (x ∷ xs) (y ∷ ys) each zip = (each x y zip.0, zip_weaker R S xs ys each zip.1)

schema_is : (h : List Rec) (records : List Top) (d : ChannelDef) (shown : ℕ) (place : Option ℕ) (o : Option SchemaDef) → Numbered h → channel_place (ids_of h) d ≡ place → d.schema ≡ o → SchemaContent records shown o
    → SchemaIs records (h ++ new_at place (ids_of h) d) shown (schema_id (ids_of h) d.schema)
schema_is h records d shown place None numbered e is content = inl (content, ap (schema_id (ids_of h)) is)
schema_is h records d shown place (Some s) numbered e is (n, t, at, shows) =
    let spot = schema_spot h d place s (schema_place (ids_of h) s) numbered e refl is in
    inr (record {
      place = n;
      top = t;
      shown = def_fields s;
      at = at;
      is = shows;
      there = spot.0;
      stands = subst (λ (id : ℕ). At (h ++ new_at place (ids_of h) d) spot.0 (schema_of id (fields_of_schema s))) (sym (ap (schema_id (ids_of h)) is)) spot.1;
    })

merges_on : (inputs : List (List Top)) (messages : List Sent) (h : List Rec) (m : Sent) (u : Use) → Merges inputs messages h → IsUse inputs m u → Merges inputs (messages ++ m ∷ []) (with_use h u)
merges_on inputs messages h m u was used =
    let d = u.content in
    let ids = ids_of h in
    let place = channel_place ids d in
    let new = new_records ids d in
    let id = channel_id ids d in
    let fields = fields_of_channel ids d in
    let message = message_of id u.message in
    let content = used.content in
    let spot = channel_spot h d place was.numbered refl in
    let declared : Numbered (h ++ new) = declared_numbered ids h d (record { schemas = refl; channels = refl }) was.numbered content.order in
    let follows : MessageFollows (h ++ new) id = (spot.0, fields, spot.1) in
    let numbered : Numbered ((h ++ new) ++ message ∷ []) = each_more Follows (h ++ new) message declared follows in
    let assoc : (h ++ new) ++ message ∷ [] ≡ with_use h u = append_assoc h new (message ∷ []) in
    let kept : filter is_message (with_use h u) ≡ filter is_message h ++ message ∷ [] =
    filter-append is_message h (added_by h u)
    ∙ ap (λ (l : List Rec). filter is_message h ++ l) (filter-append is_message new (message ∷ []) ∙ ap (λ (l : List Rec). l ++ message ∷ []) (no_message ids d place)) in
    let schema = schema_is h (flat used.tops) d content.shown.schema place d.schema was.numbered refl refl content.schema in
    let last : IsMerged inputs (with_use h u) m message = record {
      tops = used.tops;
      at = used.at;
      shown = content.shown;
      known = content.known;
      channel = id;
      written = fields;
      same = record {
        schema = subst (λ (l : List Rec). SchemaIs (flat used.tops) l content.shown.schema fields.schema) assoc (schema_more (flat used.tops) (h ++ new) (message ∷ []) content.shown.schema fields.schema schema);
        topic = sym content.topic;
        encoding = sym content.encoding;
        metadata = content.metadata;
      };
      declared = (spot.0, subst (λ (l : List Rec). At l spot.0 (channel_of id fields)) assoc (at_kept (h ++ new) (message ∷ []) spot.0 (channel_of id fields) spot.1));
      is = ap (message_of id) used.message;
    } in
    record {
      numbered = subst Numbered assoc numbered;
      merged = subst (AllZip (IsMerged inputs (with_use h u)) (messages ++ m ∷ [])) (sym kept)
          (zip_push (IsMerged inputs (with_use h u)) messages (filter is_message h) m message
          (zip_weaker (IsMerged inputs h) (IsMerged inputs (with_use h u)) messages (filter is_message h) (λ a b is. merged_more inputs h (added_by h u) a b is) was.merged) last);
      placed = stand_joined h (added_by h u) was.placed (leads_stand (added_by h u) (added_leads h d u.message place));
    }

merges_from : (inputs : List (List Top)) (done rest : List Sent) (h : List Rec) (uses : List Use) → Merges inputs done h → AreUses inputs rest uses → Merges inputs (done ++ rest) (fold with_use h uses)
merges_from inputs done [] h [] was used = subst (λ (l : List Sent). Merges inputs l h) (sym (append-nil done)) was
merges_from inputs done [] h (u ∷ us) was used = absurd used
merges_from inputs done (m ∷ ms) h [] was used = absurd used
merges_from inputs done (m ∷ ms) h (u ∷ us) was used =
    subst (λ (l : List Sent). Merges inputs l (fold with_use (with_use h u) us)) (append_assoc done (m ∷ []) ms)
    (merges_from inputs (done ++ m ∷ []) ms (with_use h u) us (merges_on inputs done h m u was used.0) used.1)

pub merges_all : (inputs : List (List Top)) (messages : List Sent) (uses : List Use) → AreUses inputs messages uses → Merges inputs messages (history_of uses)
merges_all inputs messages uses used = merges_from inputs [] messages [] uses (record {
  numbered = λ n r at. absurd (at_none n r at);
  merged = tt;
  placed = λ n r at. absurd (at_none n r at);
}) used

-- ---- no extra is put

abbrev Inner : Rec → Type 0
Inner r = is_inner r ≡ true

none_inner : Each Inner []
none_inner n r at = absurd (at_none n r at)

new_inner : (ids : Ids) (d : ChannelDef) (place : Option ℕ) → Each Inner (new_at place ids d)
new_inner ids d (Some k) = none_inner
new_inner ids d None = each_last Inner (new_schema ids d.schema) _ (schema_inner d.schema) refl
  where
    spot_inner : (spot : Option ℕ) (count : ℕ) (s : SchemaDef) → Each Inner (new_schema_at spot count s)
    spot_inner (Some k) count s = none_inner
    spot_inner None count s = each_last Inner [] (schema_of (count + 1) (fields_of_schema s)) none_inner refl

    schema_inner : (o : Option SchemaDef) → Each Inner (new_schema ids o)
    schema_inner None = none_inner
    schema_inner (Some s) = spot_inner (schema_place ids s) (length ids.schemas) s

inner_from : (h : List Rec) (uses : List Use) → Each Inner h → Each Inner (fold with_use h uses)
inner_from h [] inner = inner
inner_from h (u ∷ us) inner =
    let ids = ids_of h in
    let place = channel_place ids u.content in
    let added = each_last Inner (new_records ids u.content) (message_of (channel_id ids u.content) u.message) (new_inner ids u.content place) refl in
    inner_from (with_use h u) us (each_joined Inner h (added_by h u) inner added)

-- all are Schemas, Channels and Messages
pub inner_all : (uses : List Use) → Each (λ r. is_inner r ≡ true) (history_of uses)
inner_all uses = inner_from [] uses none_inner
