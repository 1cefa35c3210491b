-- Ids by content, of a history and of what a declaration adds to it.
use Rattle.std.proofs.Common.{◌≡◌, ℕ, ◌+◌, ◌-◌, ◌<◌, ◌≤◌, Bool, true, false, List, [], ◌∷◌, ◌++◌, length, take, Option, Some, None, refl, sym, ap, subst, inl, inr, ◌∙◌, append-nil, append_assoc, length-append, arith}
use Rattle.std.specs.Prelude.{position, nat_lt, nat_le, ◌&&◌}
use Rattle.std.proofs.lemmas.Bool.{and_parts, ltb-true, leb-true}
use Rattle.std.proofs.lemmas.List.{nil_from_length}
use Rattle.rec_data.specs.declared.owned.Rec.{Rec}
use Rattle.rec_data.specs.declared.schema.SchemaDef.{SchemaDef}
use Rattle.rec_data.specs.declared.channel.ChannelDef.{ChannelDef}
use Rattle.mcap_model.specs.Places.{At, Has}
use Rattle.mcap_model.specs.Fields.{SchemaFields, ChannelFields, MessageFields}
use Rattle.mcap_model.specs.History.{schema_of, channel_of, message_of, SchemaFollows, ChannelFollows, Numbered}
use Rattle.mcap_model.proofs.Places.{at_within, has_kept, has_last}
use Rattle.mcap_model.proofs.Lists.{at_second, cut_at, has_taken}
use Rattle.history_ids.specs.Ids.{Ids, schemas_in, channels_in, same_schema, same_channel, schema_place, id_at, schema_id, fields_of_channel, channel_place, channel_id, new_schema_at, new_schema, new_at, new_records}
use Rattle.history_ids.specs.DeclarationFields.{fields_of_schema, fields_with}
use Rattle.history_ids.specs.Tables.{schemas_lack, IsSchemaAt, HasSchemaOf}
use Rattle.history_ids.proofs.Numbering.{HasContents, schema_at, channel_at}
use Rattle.history_ids.proofs.Searches.{found, not_found, schema_own, schema_same, channel_own, channel_same, schemas_counted, channels_counted, schemas_more, channels_more, schema_content, channel_content}
use Rattle.record_core.specs.Desk.{DeskView, found_of}
use Rattle.feed_lane.specs.Pass.{PassState, AreAdded}
use Rattle.feed_lane.specs.PassCalls.{GetsId}
use Rattle.buffer_swap.specs.Shown.{SchemaStands, ChannelStands, LacksSchema, LacksChannelId}
use Rattle.buffer_swap.specs.ShownSteps.{Spares}
use Rattle.buffer_swap.proofs.Reasons.{MayHave}
use Rattle.buffer_swap.proofs.NumberedOnce.{schema_id_one}

-- ---- numbers

-- a Schema's id is no higher than the number of Schemas
schema_below : (history : List Rec) (n id : ℕ) (f : SchemaFields) → Numbered history → At history n (schema_of id f) → id ≤ length (schemas_in history)
schema_below history n id f numbered at =
    let follows : SchemaFollows (take n history) id f = numbered n (schema_of id f) at in
    let (more, whole) = cut_at history n (schema_of id f) at in
    let size : length (schemas_in history) ≡ length (schemas_in (take n history) ++ schemas_in (schema_of id f ∷ more)) =
    ap (λ (l : List Rec). length (schemas_in l)) whole ∙ ap length (schemas_more (take n history) (schema_of id f ∷ more)) in
    omega (arith, follows.numbered, schemas_counted (take n history), size, length-append (schemas_in (take n history)) (schemas_in (schema_of id f ∷ more)))

-- ---- what is found

in_history : {F : Type 0} (test : F → Bool) (ids contents : List F) (place : Option ℕ) → ids ≡ contents → position test ids ≡ place → position test contents ≡ place
in_history test ids contents place same is = ap (position test) (sym same) ∙ is

-- the Schema that stands for a content that is found
schema_found : (ids : Ids) (history : List Rec) (s : SchemaDef) (k : ℕ) → HasContents ids history → Numbered history → schema_place ids s ≡ Some k → Has history (schema_of (k + 1) (fields_of_schema s))
schema_found ids history s k has numbered is =
    let f = fields_of_schema s in
    let there = found (same_schema f) (schemas_in history) k (in_history (same_schema f) ids.schemas (schemas_in history) (Some k) has.schemas is) in
    let same : f ≡ there.element = schema_same f there.element there.passes in
    let stands = schema_at history k there.element numbered there.at in
    (stands.0, subst (λ (g : SchemaFields). At history stands.0 (schema_of (k + 1) g)) (sym same) stands.1)

channel_found : (ids : Ids) (history : List Rec) (c : ChannelDef) (k : ℕ) → HasContents ids history → Numbered history → channel_place ids c ≡ Some k → Has history (channel_of (k + 1) (fields_of_channel ids c))
channel_found ids history c k has numbered is =
    let f = fields_of_channel ids c in
    let there = found (same_channel f) (channels_in history) k (in_history (same_channel f) ids.channels (channels_in history) (Some k) has.channels is) in
    let same : f ≡ there.element = channel_same f there.element there.passes in
    let stands = channel_at history k there.element numbered there.at in
    (stands.0, subst (λ (g : ChannelFields). At history stands.0 (channel_of (k + 1) g)) (sym same) stands.1)

no_schema_found : (ids : Ids) (history : List Rec) (s : SchemaDef) (id : ℕ) → HasContents ids history → schema_place ids s ≡ None → Has history (schema_of id (fields_of_schema s)) → ⊥
no_schema_found ids history s id has is (n, at) =
    let f = fields_of_schema s in
    let there = schema_content history n id f at in
    not_found (same_schema f) (schemas_in history) (in_history (same_schema f) ids.schemas (schemas_in history) None has.schemas is) there.0 f there.1 (schema_own f)

no_channel_found : (ids : Ids) (history : List Rec) (c : ChannelDef) (id : ℕ) → HasContents ids history → channel_place ids c ≡ None → Has history (channel_of id (fields_of_channel ids c)) → ⊥
no_channel_found ids history c id has is (n, at) =
    let f = fields_of_channel ids c in
    let there = channel_content history n id f at in
    not_found (same_channel f) (channels_in history) (in_history (same_channel f) ids.channels (channels_in history) None has.channels is) there.0 f there.1 (channel_own f)

-- ---- a declaration

-- the schema of a channel that stands in the history
schema_there_by : (ids : Ids) (history : List Rec) (s : SchemaDef) (place : Option ℕ) → HasContents ids history → Numbered history → schema_place ids s ≡ place
    → id_at place (length ids.schemas) ≤ length (schemas_in history) → Has history (schema_of (id_at place (length ids.schemas)) (fields_of_schema s))
schema_there_by ids history s (Some k) has numbered is below = schema_found ids history s k has numbered is
schema_there_by ids history s None has numbered is below = absurd (omega (arith, below, ap length has.schemas))

schema_there : (ids : Ids) (history : List Rec) (schema : Option SchemaDef) → HasContents ids history → Numbered history
    → schema_id ids schema ≤ length (schemas_in history) → SchemaStands history (schema_id ids schema) schema
schema_there ids history None has numbered below = refl
schema_there ids history (Some s) has numbered below = schema_there_by ids history s (schema_place ids s) has numbered refl below

-- a channel's schema is one of the history
known_schema : (history : List Rec) (n id : ℕ) (f : ChannelFields) → Numbered history → At history n (channel_of id f) → f.schema ≤ length (schemas_in history)
known_schema history n id f numbered at =
    let follows : ChannelFollows (take n history) id f = numbered n (channel_of id f) at in
    elim follows.schema [
      | inl none ↦ omega (arith, none)
      | inr there ↦ schema_below history there.0 f.schema there.1 numbered (has_taken history n there.0 (schema_of f.schema there.1) there.2).1
    ]

schema_new_by : (ids : Ids) (history : List Rec) (s : SchemaDef) (r : Rec) (place : Option ℕ) → HasContents ids history → Numbered history → schema_place ids s ≡ place
    → Has (history ++ (new_schema_at place (length ids.schemas) s ++ r ∷ [])) (schema_of (id_at place (length ids.schemas)) (fields_of_schema s))
schema_new_by ids history s r (Some k) has numbered is = has_kept history (r ∷ []) (schema_of (k + 1) (fields_of_schema s)) (schema_found ids history s k has numbered is)
schema_new_by ids history s r None has numbered is = has_last history (schema_of (length ids.schemas + 1) (fields_of_schema s)) (r ∷ [])

schema_new : (ids : Ids) (history : List Rec) (schema : Option SchemaDef) (r : Rec) → HasContents ids history → Numbered history → SchemaStands (history ++ (new_schema ids schema ++ r ∷ [])) (schema_id ids schema) schema
schema_new ids history None r has numbered = refl
schema_new ids history (Some s) r has numbered = schema_new_by ids history s r (schema_place ids s) has numbered refl

stands_by : (ids : Ids) (history : List Rec) (c : ChannelDef) (place : Option ℕ) → HasContents ids history → Numbered history → channel_place ids c ≡ place
    → ChannelStands (history ++ new_at place ids c) (id_at place (length ids.channels)) c
stands_by ids history c (Some k) has numbered is =
    let there = channel_found ids history c k has numbered is in
    subst (λ (l : List Rec). ChannelStands l (k + 1) c) (sym (append-nil history)) (record {
      schema = schema_id ids c.schema;
      has = there;
      schema_stands = schema_there ids history c.schema has numbered (known_schema history there.0 (k + 1) (fields_of_channel ids c) numbered there.1);
    })
stands_by ids history c None has numbered is =
    let r = channel_of (length ids.channels + 1) (fields_of_channel ids c) in
    record {
      schema = schema_id ids c.schema;
      has = subst (λ (l : List Rec). Has l r) (append_assoc history (new_schema ids c.schema) (r ∷ [])) (has_last (history ++ new_schema ids c.schema) r []);
      schema_stands = schema_new ids history c.schema r has numbered;
    }

-- the channel stands behind its declaration, under its id
pub declared_stands : (ids : Ids) (history : List Rec) (c : ChannelDef) → HasContents ids history → Numbered history → ChannelStands (history ++ new_records ids c) (channel_id ids c) c
declared_stands ids history c has numbered = stands_by ids history c (channel_place ids c) has numbered refl

channels_by : (ids : Ids) (c : ChannelDef) → length (channels_in (new_at None ids c)) ≡ length (channels_in (new_schema ids c.schema)) + 1
channels_by ids c =
    let r = channel_of (length ids.channels + 1) (fields_of_channel ids c) in
    ap length (channels_more (new_schema ids c.schema) (r ∷ [])) ∙ length-append (channels_in (new_schema ids c.schema)) (channels_in (r ∷ []))

id_by : (ids : Ids) (history : List Rec) (c : ChannelDef) (place : Option ℕ) → HasContents ids history → channel_place ids c ≡ place
    → (1 ≤ id_at place (length ids.channels)) × (id_at place (length ids.channels) ≤ length (channels_in (history ++ new_at place ids c)))
id_by ids history c (Some k) has is =
    let f = fields_of_channel ids c in
    let there = found (same_channel f) (channels_in history) k (in_history (same_channel f) ids.channels (channels_in history) (Some k) has.channels is) in
    let within = at_within (channels_in history) k there.element there.at in
    let same : length (channels_in (history ++ [])) ≡ length (channels_in history) = ap (λ (l : List Rec). length (channels_in l)) (append-nil history) in
    (omega arith, omega (arith, within, same))
id_by ids history c None has is =
    let size : length (channels_in (history ++ new_at None ids c)) ≡ length (channels_in history) + length (channels_in (new_at None ids c)) =
    ap length (channels_more history (new_at None ids c)) ∙ length-append (channels_in history) (channels_in (new_at None ids c)) in
    (omega arith, omega (arith, size, channels_by ids c, ap length has.channels))

pub declared_id : (ids : Ids) (history : List Rec) (c : ChannelDef) → HasContents ids history → (1 ≤ channel_id ids c) × (channel_id ids c ≤ length (channels_in (history ++ new_records ids c)))
declared_id ids history c has = id_by ids history c (channel_place ids c) has refl

-- ---- what is added

added_schema : (ids : Ids) (c : ChannelDef) (schema : Option SchemaDef) → c.schema ≡ schema → (place : Option ℕ) → (s : SchemaDef) → schema ≡ Some s
    → AreAdded c (length ids.channels + 1) (new_schema_at place (length ids.schemas) s ++ channel_of (length ids.channels + 1) (fields_with c (id_at place (length ids.schemas))) ∷ [])
added_schema ids c schema is (Some k) s some = inr (inl (k + 1, refl))
added_schema ids c schema is None s some = inr (inr (length ids.schemas + 1, s, is ∙ some, refl))

added_new : (ids : Ids) (c : ChannelDef) (schema : Option SchemaDef) → c.schema ≡ schema
    → AreAdded c (length ids.channels + 1) (new_schema ids schema ++ channel_of (length ids.channels + 1) (fields_with c (schema_id ids schema)) ∷ [])
added_new ids c None is = inr (inl (0, refl))
added_new ids c (Some s) is = added_schema ids c (Some s) is (schema_place ids s) s refl

added_by : (ids : Ids) (c : ChannelDef) (place : Option ℕ) → AreAdded c (id_at place (length ids.channels)) (new_at place ids c)
added_by ids c (Some k) = inl refl
added_by ids c None = added_new ids c c.schema refl

pub are_added : (ids : Ids) (c : ChannelDef) → AreAdded c (channel_id ids c) (new_records ids c)
are_added ids c = added_by ids c (channel_place ids c)

pub message_spares : (history : List Rec) (channel : ℕ) (m : MessageFields) → Spares history (message_of channel m ∷ [])
message_spares history channel m = record { schemas = λ full. refl; channels = λ full. (refl, refl) }

spares_by : (ids : Ids) (history : List Rec) (c : ChannelDef) (place : Option ℕ) → HasContents ids history
    → length (ids.schemas ++ schemas_in (new_at place ids c)) ≤ 65535 → length (ids.channels ++ channels_in (new_at place ids c)) ≤ 65535 → Spares history (new_at place ids c)
spares_by ids history c (Some k) has schemas channels = record { schemas = λ full. refl; channels = λ full. (refl, refl) }
spares_by ids history c None has schemas channels =
    let added = new_at None ids c in
    record {
      schemas = λ full. nil_from_length (schemas_in added) (omega (arith, full, schemas_counted history, ap length has.schemas, length-append ids.schemas (schemas_in added), schemas));
      channels = λ full. absurd (omega (arith, full, channels_counted history, ap length has.channels, length-append ids.channels (channels_in added), channels_by ids c, channels));
    }

pub declared_spares : (ids : Ids) (history : List Rec) (c : ChannelDef) → HasContents ids history
    → length (ids.schemas ++ schemas_in (new_records ids c)) ≤ 65535 → length (ids.channels ++ channels_in (new_records ids c)) ≤ 65535 → Spares history (new_records ids c)
declared_spares ids history c has schemas channels = spares_by ids history c (channel_place ids c) has schemas channels

-- ---- ids that lack

lacks_schema_by : (ids : Ids) (history : List Rec) (s : SchemaDef) (place : Option ℕ) → HasContents ids history → schema_place ids s ≡ place → 0 < length (new_schema_at place (length ids.schemas) s)
    → length ids.schemas ≡ 65535 → LacksSchema history (Some s)
lacks_schema_by ids history s (Some k) has is some full = absurd (omega (arith, some))
lacks_schema_by ids history s None has is some full =
    (schemas_counted history ∙ sym (ap length has.schemas) ∙ full, λ id there. no_schema_found ids history s id has is there)

pub lacking_schemas : (ids : Ids) (c : ChannelDef) → schemas_lack ids c.schema ≡ true → 65535 ≤ length ids.schemas
lacking_schemas ids c is = let both = and_parts (nat_lt 0 (length (new_schema ids c.schema))) (nat_le 65535 (length ids.schemas)) is in leb-true 65535 (length ids.schemas) both.1

pub lacks_schema : (ids : Ids) (history : List Rec) (schema : Option SchemaDef) → HasContents ids history → length ids.schemas ≤ 65535 → schemas_lack ids schema ≡ true → LacksSchema history schema
lacks_schema ids history None has few is = absurd (let both = and_parts (nat_lt 0 0) (nat_le 65535 (length ids.schemas)) is in omega (arith, ltb-true 0 0 both.0))
lacks_schema ids history (Some s) has few is =
    let both = and_parts (nat_lt 0 (length (new_schema ids (Some s)))) (nat_le 65535 (length ids.schemas)) is in
    let some = ltb-true 0 (length (new_schema ids (Some s))) both.0 in
    lacks_schema_by ids history s (schema_place ids s) has refl some (omega (arith, few, leb-true 65535 (length ids.schemas) both.1))

schema_is_by : (ids : Ids) (history : List Rec) (s : SchemaDef) (id : ℕ) (place : Option ℕ) → HasContents ids history → Numbered history → schema_place ids s ≡ place
    → Has history (schema_of id (fields_of_schema s)) → id ≡ id_at place (length ids.schemas)
schema_is_by ids history s id (Some k) has numbered is (n, at) =
    let there = schema_found ids history s k has numbered is in
    schema_id_one history n there.0 id (k + 1) (fields_of_schema s) numbered at there.1
schema_is_by ids history s id None has numbered is there = absurd (no_schema_found ids history s id has is there)

schema_is : (ids : Ids) (history : List Rec) (schema : Option SchemaDef) (id : ℕ) → HasContents ids history → Numbered history → SchemaStands history id schema → id ≡ schema_id ids schema
schema_is ids history None id has numbered stands = stands
schema_is ids history (Some s) id has numbered stands = schema_is_by ids history s id (schema_place ids s) has numbered refl stands

-- ---- what stands under an id

schema_index : (history : List Rec) (n id : ℕ) (f : SchemaFields) → Numbered history → At history n (schema_of id f) → (1 ≤ id) × At (schemas_in history) (id - 1) f
schema_index history n id f numbered at =
    let follows : SchemaFollows (take n history) id f = numbered n (schema_of id f) at in
    let (more, whole) = cut_at history n (schema_of id f) at in
    let front = schemas_in (take n history) in
    let behind = schemas_in (schema_of id f ∷ more) in
    let split : schemas_in history ≡ front ++ behind = ap schemas_in whole ∙ schemas_more (take n history) (schema_of id f ∷ more) in
    let index : length front + 0 ≡ id - 1 = omega (arith, follows.numbered, schemas_counted (take n history)) in
    (omega (arith, follows.numbered), subst (λ (l : List SchemaFields). At l (id - 1) f) (sym split) (subst (λ (k : ℕ). At (front ++ behind) k f) index (at_second front behind 0 f refl)))

channel_index : (history : List Rec) (n id : ℕ) (f : ChannelFields) → Numbered history → At history n (channel_of id f) → (1 ≤ id) × At (channels_in history) (id - 1) f
channel_index history n id f numbered at =
    let follows : ChannelFollows (take n history) id f = numbered n (channel_of id f) at in
    let (more, whole) = cut_at history n (channel_of id f) at in
    let front = channels_in (take n history) in
    let behind = channels_in (channel_of id f ∷ more) in
    let split : channels_in history ≡ front ++ behind = ap channels_in whole ∙ channels_more (take n history) (channel_of id f ∷ more) in
    let index : length front + 0 ≡ id - 1 = omega (arith, follows.numbered, channels_counted (take n history)) in
    (omega (arith, follows.numbered), subst (λ (l : List ChannelFields). At l (id - 1) f) (sym split) (subst (λ (k : ℕ). At (front ++ behind) k f) index (at_second front behind 0 f refl)))

schema_under : (ids : Ids) (history : List Rec) (schema : Option SchemaDef) (id : ℕ) → HasContents ids history → Numbered history → SchemaStands history id schema → IsSchemaAt ids id schema
schema_under ids history None id has numbered stands = stands
schema_under ids history (Some s) id has numbered stands =
    let at = schema_index history stands.0 id (fields_of_schema s) numbered stands.1 in
    (at.0, subst (λ (l : List SchemaFields). At l (id - 1) (fields_of_schema s)) (sym has.schemas) at.1)

-- a channel that stands in the history has its schema there
pub stands_sharing : (ids : Ids) (history : List Rec) (c : ChannelDef) (id : ℕ) → HasContents ids history → Numbered history → ChannelStands history id c → HasSchemaOf ids c.schema id
stands_sharing ids history c id has numbered stands =
    let f = fields_with c stands.schema in
    let at = channel_index history stands.has.0 id f numbered stands.has.1 in
    record {
      some = at.0;
      content = f;
      there = subst (λ (l : List ChannelFields). At l (id - 1) f) (sym has.channels) at.1;
      schema_is = schema_under ids history c.schema stands.schema has numbered stands.schema_stands;
    }

-- no channel of a content that isn't found stands in the history
pub stands_nowhere : (ids : Ids) (history : List Rec) (c : ChannelDef) (id : ℕ) → HasContents ids history → Numbered history → channel_place ids c ≡ None → ChannelStands history id c → ⊥
stands_nowhere ids history c id has numbered none stands =
    let same : stands.schema ≡ schema_id ids c.schema = schema_is ids history c.schema stands.schema has numbered stands.schema_stands in
    no_channel_found ids history c id has none (subst (λ (k : ℕ). Has history (channel_of id (fields_with c k))) same stands.has)

pub lacks_channel : (ids : Ids) (history : List Rec) (c : ChannelDef) → HasContents ids history → Numbered history → length ids.channels ≤ 65535 → 65535 ≤ length ids.channels
    → channel_place ids c ≡ None → LacksChannelId history c
lacks_channel ids history c has numbered few full none = (
  channels_counted history ∙ sym (ap length has.channels) ∙ omega (arith, few, full),
  λ id stands. stands_nowhere ids history c id has numbered none stands,
)

-- ---- the id that is given

schemas_left : (given new_ones : ℕ) → (nat_lt 0 new_ones && nat_le 65535 given) ≡ false → 1 ≤ new_ones → given < 65535
schemas_left given new_ones is some = by (nat_lt 0 new_ones) (nat_le 65535 given) refl refl is
  where
    by : (a b : Bool) → nat_lt 0 new_ones ≡ a → nat_le 65535 given ≡ b → (a && b) ≡ false → given < 65535
    by false b first second both = absurd (let none : new_ones ≤ 0 = grind arith in omega (arith, none, some))
    by true false first second both = grind arith
    by true true first second both = absurd cc

-- a schema that needs no new id, or for which one is left, doesn't lack one
schema_left_by : (ids : Ids) (history : List Rec) (s : SchemaDef) (place : Option ℕ) → HasContents ids history → Numbered history → schema_place ids s ≡ place
    → (nat_lt 0 (length (new_schema_at place (length ids.schemas) s)) && nat_le 65535 (length ids.schemas)) ≡ false → LacksSchema history (Some s) → ⊥
schema_left_by ids history s (Some k) has numbered is left lacks = lacks.1 (k + 1) (schema_found ids history s k has numbered is)
schema_left_by ids history s None has numbered is left lacks =
    absurd (omega (arith, schemas_left (length ids.schemas) 1 left (omega arith), lacks.0, schemas_counted history, ap length has.schemas))

pub schema_left : (ids : Ids) (history : List Rec) (schema : Option SchemaDef) → HasContents ids history → Numbered history → schemas_lack ids schema ≡ false → LacksSchema history schema → ⊥
schema_left ids history None has numbered left lacks = lacks
schema_left ids history (Some s) has numbered left lacks = schema_left_by ids history s (schema_place ids s) has numbered refl left lacks

-- the id of a content that is known, or the next one
gets_by : (d : DeskView) (c : ChannelDef) (before : PassState) (place : Option ℕ) → channel_place d.ids c ≡ place → before.limit ≡ d.limit → MayHave d c place
    → GetsId before (found_of d) (id_at place (length d.ids.channels)) (new_at place d.ids c)
gets_by d c before (Some k) is same have =
    let there = found (same_channel (fields_of_channel d.ids c)) d.ids.channels k is in
    let within = at_within d.ids.channels k there.element there.at in
    inl (refl, (omega arith, omega (arith, within)))
gets_by d c before None is same have =
    let few = have.place.few in
    let room = have.place.room in
    let size = length-append (new_schema d.ids c.schema) (channel_of (length d.ids.channels + 1) (fields_of_channel d.ids c) ∷ []) in
    inr (record {
      next = refl;
      some = omega (arith, size);
      place = record { few = few; room = omega (arith, room, same) };
      channels = have.channels;
      schemas = λ two. schemas_left (length d.ids.schemas) (length (new_schema d.ids c.schema)) have.schemas (omega (arith, two, size));
    })

pub gets_id : (d : DeskView) (c : ChannelDef) (before : PassState) → before.limit ≡ d.limit → MayHave d c (channel_place d.ids c) → GetsId before (found_of d) (channel_id d.ids c) (new_records d.ids c)
gets_id d c before same have = gets_by d c before (channel_place d.ids c) refl same have
