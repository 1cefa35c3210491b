-- What is added to a numbered history follows it.
use Rattle.std.proofs.Common.{◌≡◌, ◌⊎◌, ℕ, ◌+◌, ◌-◌, ◌<◌, ◌≤◌, true, List, [], ◌∷◌, ◌++◌, length, get_or, Option, Some, None, refl, sym, ap, subst, inl, inr, ◌∙◌, append-nil, append_assoc, arith}
use Rattle.std.specs.Prelude.{position, take, nat_lt, nat_le}
use Rattle.std.proofs.lemmas.Bool.{and_parts, ltb-true, leb-true}
use Rattle.mcap_wire.specs.Maps.{KeysAscend}
use Rattle.rec_data.specs.declared.owned.Rec.{Rec}
use Rattle.rec_data.specs.declared.schema.SchemaDef.{SchemaDef}
use Rattle.rec_data.specs.declared.channel.ChannelDef.{ChannelDef}
use Rattle.mcap_model.specs.Places.{At}
use Rattle.mcap_model.specs.Fields.{SchemaFields, ChannelFields, MessageFields}
use Rattle.mcap_model.specs.History.{schema_of, channel_of, message_of, SchemaFollows, ChannelFollows, MessageFollows, Follows, Numbered}
use Rattle.mcap_model.proofs.Places.{at_read, each_more, at_last}
use Rattle.history_ids.specs.Ids.{Ids, schemas_in, channels_in, same_schema, same_channel, is_known_channel, schema_place, id_at, schema_id, fields_of_channel, channel_place, new_schema_at, new_schema, new_at, new_records}
use Rattle.history_ids.specs.DeclarationFields.{fields_of_schema}
use Rattle.history_ids.proofs.Searches.{found, not_found, schema_own, schema_same, channel_own, schemas_counted, channels_counted, channels_more, schema_there, channel_there, schema_content, channel_content}
use Rattle.mcap_model.proofs.Maps.{same_is}

-- ---- which id a content has

-- the Schema of a content that stands at a place has the next number
pub schema_at : (history : List Rec) (k : ℕ) (f : SchemaFields) → Numbered history → At (schemas_in history) k f → (n : ℕ) × At history n (schema_of (k + 1) f)
schema_at history k f numbered at =
    let (n, id, there, behind) = schema_there history k f at in
    let follows : SchemaFollows (take n history) id f = numbered n (schema_of id f) there in
    let same : id ≡ k + 1 = omega (arith, follows.numbered, behind) in
    (n, subst (λ (i : ℕ). At history n (schema_of i f)) same there)

pub channel_at : (history : List Rec) (k : ℕ) (f : ChannelFields) → Numbered history → At (channels_in history) k f → (n : ℕ) × At history n (channel_of (k + 1) f)
channel_at history k f numbered at =
    let (n, id, there, behind) = channel_there history k f at in
    let follows : ChannelFollows (take n history) id f = numbered n (channel_of id f) there in
    let same : id ≡ k + 1 = omega (arith, follows.numbered, behind) in
    (n, subst (λ (i : ℕ). At history n (channel_of i f)) same there)

-- ---- a message

some_field : ChannelFields
some_field = record { schema = 0; topic = []; encoding = []; metadata = [] }

pub message_follows : (d : Ids) (history : List Rec) (channel : ℕ) → Numbered history → d.channels ≡ channels_in history → is_known_channel d channel ≡ true → MessageFollows history channel
message_follows d history channel numbered same known =
    let both = and_parts (nat_lt 0 channel) (nat_le channel (length d.channels)) known in
    let some : 0 < channel = ltb-true 0 channel both.0 in
    let within : channel ≤ length d.channels = leb-true channel (length d.channels) both.1 in
    let size : length d.channels ≡ length (channels_in history) = ap length same in
    let below : channel - 1 < length (channels_in history) = omega (arith, some, within, size) in
    let f = get_or (channels_in history) (channel - 1) some_field in
    let (n, at) = channel_at history (channel - 1) f numbered (at_read (channels_in history) (channel - 1) some_field below) in
    let id : channel - 1 + 1 ≡ channel = omega (arith, some) in
    (n, f, subst (λ (i : ℕ). At history n (channel_of i f)) id at)

-- ---- a schema

pub schema_follows : (history : List Rec) (f : SchemaFields) → position (same_schema f) (schemas_in history) ≡ None → SchemaFollows history (length (schemas_in history) + 1) f
schema_follows history f none = record {
  numbered = omega (arith, schemas_counted history);
  is_new = λ n other at.
      let (k, there) = schema_content history n other f at in
      not_found (same_schema f) (schemas_in history) none k f there (schema_own f);
}

-- ---- a channel

ascends_at : (history : List Rec) (n id : ℕ) (g : ChannelFields) → Numbered history → At history n (channel_of id g) → KeysAscend g.metadata
ascends_at history n id g numbered at =
    let follows : ChannelFollows (take n history) id g = numbered n (channel_of id g) at in
    follows.order

pub channel_follows : (history : List Rec) (f : ChannelFields) → Numbered history → KeysAscend f.metadata
    → (f.schema ≡ 0) ⊎ ((n : ℕ) × (s : SchemaFields) × At history n (schema_of f.schema s))
    → position (same_channel f) (channels_in history) ≡ None → ChannelFollows history (length (channels_in history) + 1) f
channel_follows history f numbered order schema none = record {
  numbered = omega (arith, channels_counted history);
  schema = schema;
  order = order;
  is_new = λ n other g at same.
      let there = channel_content history n other g at in
      let equal : f ≡ g = same_is f g order (ascends_at history n other g numbered at) same in
      not_found (same_channel f) (channels_in history) none there.0 g there.1 (subst (λ (h : ChannelFields). same_channel f h ≡ true) equal (channel_own f));
}

-- ---- what a declaration adds

-- the desk has the contents of the history
pub record HasContents (d : Ids) (history : List Rec) : Type 0 where
  pub schemas : d.schemas ≡ schemas_in history
  pub channels : d.channels ≡ channels_in history

-- the id that a channel's schema has behind the Schema that is added with it
abbrev SchemaStands : List Rec → ℕ → Type 0
SchemaStands history id = (id ≡ 0) ⊎ ((n : ℕ) × (s : SchemaFields) × At history n (schema_of id s))

record SchemaAdded (history whole : List Rec) (id : ℕ) : Type 0 where
  pub numbered : Numbered whole
  pub stands : SchemaStands whole id
  pub channels : channels_in whole ≡ channels_in history

schema_by : (d : Ids) (history : List Rec) (s : SchemaDef) (place : Option ℕ) → HasContents d history → Numbered history → schema_place d s ≡ place
    → SchemaAdded history (history ++ new_schema_at place (length d.schemas) s) (id_at place (length d.schemas))
schema_by d history s (Some k) has numbered is =
    let f = fields_of_schema s in
    let there = found (same_schema f) (schemas_in history) k (ap (λ (l : List SchemaFields). position (same_schema f) l) (sym has.schemas) ∙ is) in
    let same : f ≡ there.element = schema_same f there.element there.passes in
    let stands = schema_at history k there.element numbered there.at in
    subst (λ (l : List Rec). SchemaAdded history l (k + 1)) (sym (append-nil history)) (record {
      numbered = numbered;
      stands = inr (stands.0, there.element, stands.1);
      channels = refl;
    })
schema_by d history s None has numbered is =
    let f = fields_of_schema s in
    let id = length d.schemas + 1 in
    let size : length (schemas_in history) + 1 ≡ id = ap (λ (l : List SchemaFields). length l + 1) (sym has.schemas) in
    let follows = subst (λ (i : ℕ). SchemaFollows history i f) size (schema_follows history f (ap (λ (l : List SchemaFields). position (same_schema f) l) (sym has.schemas) ∙ is)) in
    record {
      numbered = each_more Follows history (schema_of id f) numbered follows;
      stands = inr (length history, f, at_last history (schema_of id f) []);
      channels = channels_more history (schema_of id f ∷ []) ∙ append-nil (channels_in history);
    }

schema_added : (d : Ids) (history : List Rec) (schema : Option SchemaDef) → HasContents d history → Numbered history
    → SchemaAdded history (history ++ new_schema d schema) (schema_id d schema)
schema_added d history None has numbered = subst (λ (l : List Rec). SchemaAdded history l 0) (sym (append-nil history)) (record {
  numbered = numbered;
  stands = inl refl;
  channels = refl;
})
schema_added d history (Some s) has numbered = schema_by d history s (schema_place d s) has numbered refl

added_by : (d : Ids) (history : List Rec) (c : ChannelDef) (place : Option ℕ) → HasContents d history → Numbered history → KeysAscend c.metadata
    → channel_place d c ≡ place → Numbered (history ++ new_at place d c)
added_by d history c (Some k) has numbered order is = subst Numbered (sym (append-nil history)) numbered
added_by d history c None has numbered order is =
    let f = fields_of_channel d c in
    let before = new_schema d c.schema in
    let behind = schema_added d history c.schema has numbered in
    let same : d.channels ≡ channels_in (history ++ before) = has.channels ∙ sym behind.channels in
    let none : position (same_channel f) (channels_in (history ++ before)) ≡ None = ap (λ (l : List ChannelFields). position (same_channel f) l) (sym same) ∙ is in
    let id = length d.channels + 1 in
    let size : length (channels_in (history ++ before)) + 1 ≡ id = ap (λ (l : List ChannelFields). length l + 1) (sym same) in
    let follows = subst (λ (i : ℕ). ChannelFollows (history ++ before) i f) size (channel_follows (history ++ before) f behind.numbered order behind.stands none) in
    subst Numbered (append_assoc history before (channel_of id f ∷ [])) (each_more Follows (history ++ before) (channel_of id f) behind.numbered follows)

-- the history stays numbered
pub declared_numbered : (d : Ids) (history : List Rec) (c : ChannelDef) → HasContents d history → Numbered history → KeysAscend c.metadata → Numbered (history ++ new_records d c)
declared_numbered d history c has numbered order = added_by d history c (channel_place d c) has numbered order refl

pub published_numbered : (d : Ids) (history : List Rec) (channel : ℕ) (m : MessageFields) → HasContents d history → Numbered history → is_known_channel d channel ≡ true → Numbered (history ++ message_of channel m ∷ [])
published_numbered d history channel m has numbered known = each_more Follows history (message_of channel m) numbered (message_follows d history channel numbered has.channels known)
