-- Whether a Schema, a Channel or a Message agrees with the records before it.
use Rattle.std.proofs.Common.{◌≡◌, ◌⊎◌, ℕ, List, [], ◌∷◌, ◌++◌, sym, subst, inl, inr, ◌∙◌, arith}
use Rattle.mcap_model.specs.Places.{At}
use Rattle.mcap_model.specs.Tops.{Top}
use Rattle.mcap_model.specs.Fields.{SchemaFields, IsSchema, ChannelFields, SameChannel, IsChannel, MessageFields, IsMessage}
use Rattle.mcap_model.specs.Rules.{Agrees, HasSchema}
use Rattle.mcap_model.specs.declared.table.Declared.{Declared}
use Rattle.mcap_model.specs.declared.tables.Tables.{Tables}
use Rattle.mcap_model.specs.Made.{top}
use Rattle.mcap_model.specs.Declarations.{FirstOf, SomeFirst, TablesOf}
use Rattle.mcap_model.specs.WantsOfMemory.{SameButMetadata, AgreesButMetadata}
use Rattle.mcap_model.proofs.Firsts.{first_other, first_again, first_new}
use Rattle.mcap_model.proofs.Maps.{schema_once, shows_once, message_once, same_trans}
use Rattle.mcap_model.proofs.Copies.{channel_refl, channel_sym}

abbrev SchemasOf : List Top → List Declared → Type 0
SchemasOf records first = FirstOf 3 IsSchema (λ (f : SchemaFields) (g : SchemaFields). f ≡ g) records first

abbrev ChannelsOf : List Top → List Declared → Type 0
ChannelsOf records first = FirstOf 4 IsChannel SameChannel records first

abbrev pub Lacks : List Declared → ℕ → Type 0
Lacks first id = (k : ℕ) (d : Declared) → At first k d → d.id ≡ id → ⊥

-- ---- Schemas

-- a Schema whose id is that of an entry with the same fields
pub schema_agrees : (records : List Top) (first : List Declared) (t : Top) (id : ℕ) (f : SchemaFields) (k : ℕ) (d : Declared) → SchemasOf records first → At first k d → d.id ≡ id → IsSchema t id f
    → ((i : ℕ) (h : SchemaFields) → IsSchema (top 3 d.content) i h → h ≡ f) → Agrees records t
schema_agrees records first t id f k d was at_k ids is same = record {
  schemas = λ i g h n u is_t at is_u.
      let once = schema_once t id i f g is is_t in
      let c = was.covers n i u h at is_u in
      let entry : c.1 ≡ d = was.apart c.0 k c.1 d c.3 at_k (c.4 ∙ sym once.0 ∙ sym ids) in
      let shown : IsSchema (top 3 d.content) i c.2 = subst (λ (x : Declared). IsSchema (top 3 x.content) i c.2) entry c.5 in
      sym c.6 ∙ same i c.2 shown ∙ once.1;
  channels = λ i g h n u is_t at is_u. absurd (omega (arith, is.kind, is_t.kind));
  schema = λ i g is_t. absurd (omega (arith, is.kind, is_t.kind));
  channel = λ i m is_t. absurd (omega (arith, is.kind, is_t.kind));
}

-- or one of a new id
pub schema_new_agrees : (records : List Top) (first : List Declared) (t : Top) (id : ℕ) (f : SchemaFields) → SchemasOf records first → IsSchema t id f → Lacks first id → Agrees records t
schema_new_agrees records first t id f was is lacks = record {
  schemas = λ i g h n u is_t at is_u.
      let once = schema_once t id i f g is is_t in
      let c = was.covers n i u h at is_u in
      absurd (lacks c.0 c.1 c.3 (c.4 ∙ sym once.0));
  channels = λ i g h n u is_t at is_u. absurd (omega (arith, is.kind, is_t.kind));
  schema = λ i g is_t. absurd (omega (arith, is.kind, is_t.kind));
  channel = λ i m is_t. absurd (omega (arith, is.kind, is_t.kind));
}

-- one with other fields doesn't agree
pub schema_apart : (records : List Top) (first : List Declared) (t : Top) (id : ℕ) (f : SchemaFields) (k : ℕ) (d : Declared) → SchemasOf records first → At first k d → d.id ≡ id → IsSchema t id f
    → ((i : ℕ) (h : SchemaFields) → IsSchema (top 3 d.content) i h → h ≡ f → ⊥) → Agrees records t → ⊥
schema_apart records first t id f k d was at_k ids is other agrees =
    let h = was.holds k d at_k in
    let has = h.2 in
    let shown : IsSchema (top 3 d.content) id h.0 = subst (λ (i : ℕ). IsSchema (top 3 d.content) i h.0) ids h.1 in
    other id h.0 shown (agrees.schemas id f h.0 has.0 (top 3 d.content) is has.1 shown)

schema_no_channel : (t : Top) (id : ℕ) (f : SchemaFields) → IsSchema t id f → (i : ℕ) (g : ChannelFields) → IsChannel t i g → ⊥
schema_no_channel t id f is i g other = omega (arith, is.kind, other.kind)

channel_no_schema : (t : Top) (id : ℕ) (f : ChannelFields) → IsChannel t id f → (i : ℕ) (g : SchemaFields) → IsSchema t i g → ⊥
channel_no_schema t id f is i g other = omega (arith, is.kind, other.kind)

pub schema_again : (records : List Top) (tables : Tables) (t : Top) (id : ℕ) (f : SchemaFields) (k : ℕ) (d : Declared) → TablesOf records tables → At tables.schemas k d → d.id ≡ id → IsSchema t id f
    → ((i : ℕ) (h : SchemaFields) → IsSchema (top 3 d.content) i h → h ≡ f) → TablesOf (records ++ t ∷ []) tables
schema_again records tables t id f k d was at_k ids is same = record {
  schemas = first_again 3 IsSchema (λ (x : SchemaFields) (y : SchemaFields). x ≡ y) records tables.schemas t k d was.schemas at_k (λ i g is_t.
      let once = schema_once t id i f g is is_t in
      let h = was.schemas.holds k d at_k in
      (h.0, ids ∙ once.0, subst (λ (m : ℕ). IsSchema (top 3 d.content) m h.0) (ids ∙ once.0) h.1, same d.id h.0 h.1 ∙ once.1));
  channels = first_other 4 IsChannel SameChannel records tables.channels t was.channels (schema_no_channel t id f is);
}

pub schema_new : (records : List Top) (old new : Tables) (d : Declared) (f : SchemaFields) → TablesOf records old → new.schemas ≡ old.schemas ++ d ∷ [] → new.channels ≡ old.channels
    → IsSchema (top 3 d.content) d.id f → Lacks old.schemas d.id → TablesOf (records ++ top 3 d.content ∷ []) new
schema_new records old new d f was more same is lacks = record {
  schemas = subst (SchemasOf (records ++ top 3 d.content ∷ [])) (sym more)
      (first_new 3 IsSchema (λ (x : SchemaFields) (y : SchemaFields). x ≡ y) records old.schemas d f was.schemas is (λ i g is_t. let once = schema_once (top 3 d.content) d.id i f g is is_t in (once.0, once.1)) lacks);
  channels = subst (ChannelsOf (records ++ top 3 d.content ∷ [])) (sym same)
      (first_other 4 IsChannel SameChannel records old.channels (top 3 d.content) was.channels (schema_no_channel (top 3 d.content) d.id f is));
}

-- ---- Channels

schema_there : (records : List Top) (first : List Declared) (id : ℕ) → SchemasOf records first → (id ≡ 0) ⊎ SomeFirst first id → (id ≡ 0) ⊎ HasSchema records id
schema_there records first id was (inl none) = inl none
schema_there records first id was (inr (k, d, at, ids)) =
    let h = was.holds k d at in
    let has = h.2 in
    inr (record { place = has.0; top = top 3 d.content; shown = h.0; at = has.1; is = subst (λ (i : ℕ). IsSchema (top 3 d.content) i h.0) ids h.1 })

pub channel_agrees : (records : List Top) (tables : Tables) (t : Top) (id : ℕ) (f : ChannelFields) (k : ℕ) (d : Declared) → TablesOf records tables → At tables.channels k d → d.id ≡ id → IsChannel t id f
    → (f.schema ≡ 0) ⊎ SomeFirst tables.schemas f.schema → ((i : ℕ) (h : ChannelFields) → IsChannel (top 4 d.content) i h → SameChannel h f) → Agrees records t
channel_agrees records tables t id f k d was at_k ids is known same = record {
  schemas = λ i g h n u is_t at is_u. absurd (omega (arith, is.kind, is_t.kind));
  channels = λ i g h n u is_t at is_u.
      let once = shows_once t id i f g is is_t in
      let c = was.channels.covers n i u h at is_u in
      let entry : c.1 ≡ d = was.channels.apart c.0 k c.1 d c.3 at_k (c.4 ∙ sym once.0 ∙ sym ids) in
      let shown : IsChannel (top 4 d.content) i c.2 = subst (λ (x : Declared). IsChannel (top 4 x.content) i c.2) entry c.5 in
      let first : SameChannel c.2 g = subst (λ (x : ChannelFields). SameChannel c.2 x) once.1 (same i c.2 shown) in
      same_trans h c.2 g (channel_sym c.2 h c.6) first;
  schema = λ i g is_t.
      let once = shows_once t id i f g is is_t in
      subst (λ (x : ChannelFields). (x.schema ≡ 0) ⊎ HasSchema records x.schema) once.1 (schema_there records tables.schemas f.schema was.schemas known);
  channel = λ i m is_t. absurd (omega (arith, is.kind, is_t.kind));
}

pub channel_new_agrees : (records : List Top) (tables : Tables) (t : Top) (id : ℕ) (f : ChannelFields) → TablesOf records tables → IsChannel t id f → (f.schema ≡ 0) ⊎ SomeFirst tables.schemas f.schema → Lacks tables.channels id → Agrees records t
channel_new_agrees records tables t id f was is known lacks = record {
  schemas = λ i g h n u is_t at is_u. absurd (omega (arith, is.kind, is_t.kind));
  channels = λ i g h n u is_t at is_u.
      let once = shows_once t id i f g is is_t in
      let c = was.channels.covers n i u h at is_u in
      absurd (lacks c.0 c.1 c.3 (c.4 ∙ sym once.0));
  schema = λ i g is_t.
      let once = shows_once t id i f g is is_t in
      subst (λ (x : ChannelFields). (x.schema ≡ 0) ⊎ HasSchema records x.schema) once.1 (schema_there records tables.schemas f.schema was.schemas known);
  channel = λ i m is_t. absurd (omega (arith, is.kind, is_t.kind));
}

-- one that agrees in all but its metadata with the first of its id
pub channel_again_but_metadata : (records : List Top) (tables : Tables) (t : Top) (id : ℕ) (f : ChannelFields) (k : ℕ) (d : Declared) → TablesOf records tables → At tables.channels k d → d.id ≡ id → IsChannel t id f
    → (f.schema ≡ 0) ⊎ SomeFirst tables.schemas f.schema → ((i : ℕ) (h : ChannelFields) → IsChannel (top 4 d.content) i h → SameButMetadata h f) → AgreesButMetadata records t
channel_again_but_metadata records tables t id f k d was at_k ids is known same = record {
  schemas = λ i g h n u is_t at is_u. absurd (omega (arith, is.kind, is_t.kind));
  channels = λ i g h n u is_t at is_u.
      let once = shows_once t id i f g is is_t in
      let c = was.channels.covers n i u h at is_u in
      let entry : c.1 ≡ d = was.channels.apart c.0 k c.1 d c.3 at_k (c.4 ∙ sym once.0 ∙ sym ids) in
      let shown : IsChannel (top 4 d.content) i c.2 = subst (λ (x : Declared). IsChannel (top 4 x.content) i c.2) entry c.5 in
      let first : SameButMetadata c.2 g = subst (λ (x : ChannelFields). SameButMetadata c.2 x) once.1 (same i c.2 shown) in
      let agree : SameChannel c.2 h = c.6 in
      record { schema = sym agree.schema ∙ first.schema; topic = sym agree.topic ∙ first.topic; encoding = sym agree.encoding ∙ first.encoding };
  schema = λ i g is_t.
      let once = shows_once t id i f g is is_t in
      subst (λ (x : ChannelFields). (x.schema ≡ 0) ⊎ HasSchema records x.schema) once.1 (schema_there records tables.schemas f.schema was.schemas known);
  channel = λ i m is_t. absurd (omega (arith, is.kind, is_t.kind));
}

pub but_metadata : (records : List Top) (t : Top) → Agrees records t → AgreesButMetadata records t
but_metadata records t agrees = record {
  schemas = agrees.schemas;
  channels = λ i g h n u is_t at is_u. let same = agrees.channels i g h n u is_t at is_u in record { schema = same.schema; topic = same.topic; encoding = same.encoding };
  schema = agrees.schema;
  channel = agrees.channel;
}

-- a Channel whose schema isn't there
pub channel_homeless : (records : List Top) (tables : Tables) (t : Top) (id : ℕ) (f : ChannelFields) → TablesOf records tables → IsChannel t id f → ((f.schema ≡ 0) ⊎ SomeFirst tables.schemas f.schema → ⊥) → Agrees records t → ⊥
channel_homeless records tables t id f was is unknown agrees = elim (agrees.schema id f is) [
  | inl none ↦ unknown (inl none)
  | inr has ↦ let c = was.schemas.covers has.place f.schema has.top has.shown has.at has.is in unknown (inr (c.0, c.1, c.3, c.4))
]

-- or one with other fields than the first of its id
pub channel_apart : (records : List Top) (tables : Tables) (t : Top) (id : ℕ) (f : ChannelFields) (k : ℕ) (d : Declared) → TablesOf records tables → At tables.channels k d → d.id ≡ id → IsChannel t id f
    → ((i : ℕ) (h : ChannelFields) → IsChannel (top 4 d.content) i h → SameChannel h f → ⊥) → Agrees records t → ⊥
channel_apart records tables t id f k d was at_k ids is other agrees =
    let h = was.channels.holds k d at_k in
    let has = h.2 in
    let shown : IsChannel (top 4 d.content) id h.0 = subst (λ (i : ℕ). IsChannel (top 4 d.content) i h.0) ids h.1 in
    other id h.0 shown (agrees.channels id f h.0 has.0 (top 4 d.content) is has.1 shown)

pub channel_again : (records : List Top) (tables : Tables) (t : Top) (id : ℕ) (f : ChannelFields) (k : ℕ) (d : Declared) → TablesOf records tables → At tables.channels k d → d.id ≡ id → IsChannel t id f
    → ((i : ℕ) (h : ChannelFields) → IsChannel (top 4 d.content) i h → SameChannel h f) → TablesOf (records ++ t ∷ []) tables
channel_again records tables t id f k d was at_k ids is same = record {
  schemas = first_other 3 IsSchema (λ (x : SchemaFields) (y : SchemaFields). x ≡ y) records tables.schemas t was.schemas (channel_no_schema t id f is);
  channels = first_again 4 IsChannel SameChannel records tables.channels t k d was.channels at_k (λ i g is_t.
      let once = shows_once t id i f g is is_t in
      let h = was.channels.holds k d at_k in
      (h.0, ids ∙ once.0, subst (λ (m : ℕ). IsChannel (top 4 d.content) m h.0) (ids ∙ once.0) h.1, subst (λ (x : ChannelFields). SameChannel h.0 x) once.1 (same d.id h.0 h.1)));
}

pub channel_new : (records : List Top) (old new : Tables) (d : Declared) (f : ChannelFields) → TablesOf records old → new.schemas ≡ old.schemas → new.channels ≡ old.channels ++ d ∷ []
    → IsChannel (top 4 d.content) d.id f → Lacks old.channels d.id → TablesOf (records ++ top 4 d.content ∷ []) new
channel_new records old new d f was same more is lacks = record {
  schemas = subst (SchemasOf (records ++ top 4 d.content ∷ [])) (sym same)
      (first_other 3 IsSchema (λ (x : SchemaFields) (y : SchemaFields). x ≡ y) records old.schemas (top 4 d.content) was.schemas (channel_no_schema (top 4 d.content) d.id f is));
  channels = subst (ChannelsOf (records ++ top 4 d.content ∷ [])) (sym more)
      (first_new 4 IsChannel SameChannel records old.channels d f was.channels is (λ i g is_t.
      let once = shows_once (top 4 d.content) d.id i f g is is_t in
      (once.0, subst (λ (x : ChannelFields). SameChannel f x) once.1 (channel_refl f))) lacks);
}

-- ---- Messages

pub message_agrees : (records : List Top) (tables : Tables) (t : Top) (id : ℕ) (m : MessageFields) → TablesOf records tables → IsMessage t id m → SomeFirst tables.channels id → Agrees records t
message_agrees records tables t id m was is (k, d, at, ids) = record {
  schemas = λ i g h n u is_t at_u is_u. absurd (omega (arith, is.kind, is_t.kind));
  channels = λ i g h n u is_t at_u is_u. absurd (omega (arith, is.kind, is_t.kind));
  schema = λ i g is_t. absurd (omega (arith, is.kind, is_t.kind));
  channel = λ i other is_t.
      let once = message_once t id i m other is is_t in
      let h = was.channels.holds k d at in
      let has = h.2 in
      record { place = has.0; top = top 4 d.content; shown = h.0; at = has.1; is = subst (λ (j : ℕ). IsChannel (top 4 d.content) j h.0) (ids ∙ once.0) h.1 };
}

pub message_homeless : (records : List Top) (tables : Tables) (t : Top) (id : ℕ) (m : MessageFields) → TablesOf records tables → IsMessage t id m → Lacks tables.channels id → Agrees records t → ⊥
message_homeless records tables t id m was is lacks agrees =
    let has = agrees.channel id m is in
    let c = was.channels.covers has.place id has.top has.shown has.at has.is in
    lacks c.0 c.1 c.3 c.4

-- neither a Schema nor a Channel: the tables are those of the records with it
pub other_more : (records : List Top) (tables : Tables) (t : Top) → TablesOf records tables → (t.op ≡ 3 → ⊥) → (t.op ≡ 4 → ⊥) → TablesOf (records ++ t ∷ []) tables
other_more records tables t was no_schema no_channel = record {
  schemas = first_other 3 IsSchema (λ (x : SchemaFields) (y : SchemaFields). x ≡ y) records tables.schemas t was.schemas (λ i g is. no_schema is.kind);
  channels = first_other 4 IsChannel SameChannel records tables.channels t was.channels (λ i g is. no_channel is.kind);
}
