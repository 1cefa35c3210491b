-- The records of a history, as a file holds them.
use Rattle.std.proofs.Common.{◌≡◌, ◌⊎◌, ℕ, zero, suc, ◌+◌, ◌<◌, ◌≤◌, Bool, false, cond, ◌==◌, List, [], ◌∷◌, ◌++◌, take, drop, map, refl, sym, ap, subst, inl, inr, ◌∙◌, arith}
use Rattle.std.specs.Prelude.{nat_lt, filter, ◌||◌, if◌then◌else◌}
use Rattle.std.proofs.lemmas.Bool.{or_from, le-ltb, both_ways, ne_eqb}
use Rattle.std.proofs.lemmas.List.{take-append-drop}
use Rattle.rec_data.specs.declared.owned.Rec.{Rec}
use Rattle.rec_data.specs.declared.owned.Rec.TheVariants.{Schema, Channel, Message, Extra}
use Rattle.rec_data.specs.Owned.{rec_opcode, IsExtraContent}
use Rattle.rec_data.proofs.OwnedReading.{extra_not}
use Rattle.mcap_model.specs.Places.{At, Each, EachBehind}
use Rattle.mcap_model.specs.Tops.{Top, is_flat_kind, inner_tops, flattened, flat}
use Rattle.mcap_model.specs.Fields.{IsHeader, IsDataEnd, SchemaFields, IsSchema, ChannelFields, IsChannel, MessageFields, IsMessage, AttachmentFields, IsAttachment, IsMetadata}
use Rattle.mcap_model.specs.Rules.{V6, V7, HasSchema, HasChannel, Agrees}
use Rattle.mcap_model.specs.Kept.{reading_limits, is_beyond}
use Rattle.mcap_model.specs.History.{rec_top, schema_of, channel_of, message_of, body_of, Follows, SchemaFollows, ChannelFollows, MessageFollows, Numbered}
use Rattle.mcap_model.specs.Histories.{IdsAgree}
use Rattle.mcap_model.specs.Laws.{IsNumberedRec, IsInner, NumberedIdsAgree}
use Rattle.mcap_model.specs.ReadBack.{IsReadBack}
use Rattle.mcap_model.proofs.Places.{at_none, each_front}
use Rattle.mcap_model.proofs.ReadBack.{schema_back, channel_back, message_back, at_map, schema_id_below, channel_id_below}
use Rattle.mcap_model.proofs.Flat.{at_mapped}
use Rattle.mcap_model.proofs.Lists.{each_taken}
use Rattle.mcap_model.proofs.Asides.{each_body, numbered_body}

-- ---- a record of one kind meets its layout

pub header_meets : (t : Top) → IsHeader t → V6 t
header_meets t is = record {
  header = λ e. is;
  footer = λ e. absurd (omega (arith, is.kind, e));
  schema = λ e. absurd (omega (arith, is.kind, e));
  channel = λ e. absurd (omega (arith, is.kind, e));
  message = λ e. absurd (omega (arith, is.kind, e));
  chunk = λ e. absurd (omega (arith, is.kind, e));
  message_index = λ e. absurd (omega (arith, is.kind, e));
  chunk_index = λ e. absurd (omega (arith, is.kind, e));
  attachment = λ e. absurd (omega (arith, is.kind, e));
  attachment_index = λ e. absurd (omega (arith, is.kind, e));
  statistics = λ e. absurd (omega (arith, is.kind, e));
  metadata = λ e. absurd (omega (arith, is.kind, e));
  metadata_index = λ e. absurd (omega (arith, is.kind, e));
  summary_offset = λ e. absurd (omega (arith, is.kind, e));
  data_end = λ e. absurd (omega (arith, is.kind, e));
}

pub data_end_meets : (t : Top) → IsDataEnd t → V6 t
data_end_meets t is = record {
  header = λ e. absurd (omega (arith, is.kind, e));
  footer = λ e. absurd (omega (arith, is.kind, e));
  schema = λ e. absurd (omega (arith, is.kind, e));
  channel = λ e. absurd (omega (arith, is.kind, e));
  message = λ e. absurd (omega (arith, is.kind, e));
  chunk = λ e. absurd (omega (arith, is.kind, e));
  message_index = λ e. absurd (omega (arith, is.kind, e));
  chunk_index = λ e. absurd (omega (arith, is.kind, e));
  attachment = λ e. absurd (omega (arith, is.kind, e));
  attachment_index = λ e. absurd (omega (arith, is.kind, e));
  statistics = λ e. absurd (omega (arith, is.kind, e));
  metadata = λ e. absurd (omega (arith, is.kind, e));
  metadata_index = λ e. absurd (omega (arith, is.kind, e));
  summary_offset = λ e. absurd (omega (arith, is.kind, e));
  data_end = λ e. is;
}

-- a Schema, a Channel or a Message, by what it shows
flat_kind_meets : (t : Top) → (t.op ≡ 3 → (id : ℕ) × (f : SchemaFields) × IsSchema t id f) → (t.op ≡ 4 → (id : ℕ) × (f : ChannelFields) × IsChannel t id f)
    → (t.op ≡ 5 → (channel : ℕ) × (m : MessageFields) × IsMessage t channel m) → (t.op ≡ 3) ⊎ ((t.op ≡ 4) ⊎ (t.op ≡ 5)) → V6 t
flat_kind_meets t schema channel message kind =
    let other : (k : ℕ) → (k ≡ 3 → ⊥) → (k ≡ 4 → ⊥) → (k ≡ 5 → ⊥) → t.op ≡ k → ⊥ = λ k a b c e. elim kind [
      | inl three ↦ a (sym e ∙ three)
      | inr (inl four) ↦ b (sym e ∙ four)
      | inr (inr five) ↦ c (sym e ∙ five)
    ] in
    record {
      header = λ e. absurd (other 1 (λ a. omega (arith, a)) (λ a. omega (arith, a)) (λ a. omega (arith, a)) e);
      footer = λ e. absurd (other 2 (λ a. omega (arith, a)) (λ a. omega (arith, a)) (λ a. omega (arith, a)) e);
      schema = schema;
      channel = channel;
      message = message;
      chunk = λ e. absurd (other 6 (λ a. omega (arith, a)) (λ a. omega (arith, a)) (λ a. omega (arith, a)) e);
      message_index = λ e. absurd (other 7 (λ a. omega (arith, a)) (λ a. omega (arith, a)) (λ a. omega (arith, a)) e);
      chunk_index = λ e. absurd (other 8 (λ a. omega (arith, a)) (λ a. omega (arith, a)) (λ a. omega (arith, a)) e);
      attachment = λ e. absurd (other 9 (λ a. omega (arith, a)) (λ a. omega (arith, a)) (λ a. omega (arith, a)) e);
      attachment_index = λ e. absurd (other 10 (λ a. omega (arith, a)) (λ a. omega (arith, a)) (λ a. omega (arith, a)) e);
      statistics = λ e. absurd (other 11 (λ a. omega (arith, a)) (λ a. omega (arith, a)) (λ a. omega (arith, a)) e);
      metadata = λ e. absurd (other 12 (λ a. omega (arith, a)) (λ a. omega (arith, a)) (λ a. omega (arith, a)) e);
      metadata_index = λ e. absurd (other 13 (λ a. omega (arith, a)) (λ a. omega (arith, a)) (λ a. omega (arith, a)) e);
      summary_offset = λ e. absurd (other 14 (λ a. omega (arith, a)) (λ a. omega (arith, a)) (λ a. omega (arith, a)) e);
      data_end = λ e. absurd (other 15 (λ a. omega (arith, a)) (λ a. omega (arith, a)) (λ a. omega (arith, a)) e);
    }

-- ---- a record of a history

pub schema_shown : (id : ℕ) (f : SchemaFields) → IsReadBack (schema_of id f) → (id ≡ 0 → ⊥) → IsSchema (rec_top (schema_of id f)) id f
schema_shown id f back some = record { kind = refl; layout = back.1; some = some }

pub channel_shown : (id : ℕ) (f : ChannelFields) → IsReadBack (channel_of id f) → IsChannel (rec_top (channel_of id f)) id f
channel_shown id f back = record { kind = refl; layout = back.1 }

pub message_shown : (channel : ℕ) (m : MessageFields) → IsReadBack (message_of channel m) → IsMessage (rec_top (message_of channel m)) channel m
message_shown channel m back = record { kind = refl; layout = back.1 }

-- the opcode of an extra is none of the others below those of applications
pub extra_other : (op : ℕ) (content : List ℕ) (k : ℕ) → IsExtraContent op content → k < 128 → (k ≡ 9 → ⊥) → (k ≡ 12 → ⊥) → op ≡ k → ⊥
extra_other op content k (inl nine) low a b e = a (sym e ∙ nine.0)
extra_other op content k (inr (inl twelve)) low a b e = b (sym e ∙ twelve.0)
extra_other op content k (inr (inr high)) low a b e = omega (arith, high, low, e)

-- an extra meets its layout
extra_meets : (op : ℕ) (content : List ℕ) → IsExtraContent op content → V6 (record { op = op; content = content })
extra_meets op content is = record {
  header = λ e. absurd (other 1 (omega arith) (λ a. omega (arith, a)) (λ a. omega (arith, a)) e);
  footer = λ e. absurd (other 2 (omega arith) (λ a. omega (arith, a)) (λ a. omega (arith, a)) e);
  schema = λ e. absurd (other 3 (omega arith) (λ a. omega (arith, a)) (λ a. omega (arith, a)) e);
  channel = λ e. absurd (other 4 (omega arith) (λ a. omega (arith, a)) (λ a. omega (arith, a)) e);
  message = λ e. absurd (other 5 (omega arith) (λ a. omega (arith, a)) (λ a. omega (arith, a)) e);
  chunk = λ e. absurd (other 6 (omega arith) (λ a. omega (arith, a)) (λ a. omega (arith, a)) e);
  message_index = λ e. absurd (other 7 (omega arith) (λ a. omega (arith, a)) (λ a. omega (arith, a)) e);
  chunk_index = λ e. absurd (other 8 (omega arith) (λ a. omega (arith, a)) (λ a. omega (arith, a)) e);
  attachment = attachment is;
  attachment_index = λ e. absurd (other 10 (omega arith) (λ a. omega (arith, a)) (λ a. omega (arith, a)) e);
  statistics = λ e. absurd (other 11 (omega arith) (λ a. omega (arith, a)) (λ a. omega (arith, a)) e);
  metadata = metadata is;
  metadata_index = λ e. absurd (other 13 (omega arith) (λ a. omega (arith, a)) (λ a. omega (arith, a)) e);
  summary_offset = λ e. absurd (other 14 (omega arith) (λ a. omega (arith, a)) (λ a. omega (arith, a)) e);
  data_end = λ e. absurd (other 15 (omega arith) (λ a. omega (arith, a)) (λ a. omega (arith, a)) e);
}
  where
    other : (k : ℕ) → k < 128 → (k ≡ 9 → ⊥) → (k ≡ 12 → ⊥) → op ≡ k → ⊥
    other k low a b e = extra_other op content k is low a b e

    attachment : IsExtraContent op content → op ≡ 9 → (f : AttachmentFields) × IsAttachment (record { op = op; content = content }) f
    attachment (inl (kind, f, shows)) e = (f, record { kind = kind; layout = shows })
    attachment (inr (inl twelve)) e = absurd (omega (arith, twelve.0, e))
    attachment (inr (inr high)) e = absurd (omega (arith, high, e))

    metadata : IsExtraContent op content → op ≡ 12 → (name : List ℕ) × (pairs : List (List ℕ × List ℕ)) × IsMetadata (record { op = op; content = content }) name pairs
    metadata (inl nine) e = absurd (omega (arith, nine.0, e))
    metadata (inr (inl (kind, f, shows))) e = (f.name, f.metadata, record { kind = kind; layout = shows })
    metadata (inr (inr high)) e = absurd (omega (arith, high, e))

pub rec_meets : (r : Rec) → IsReadBack r → IsNumberedRec r → V6 (rec_top r)
rec_meets (Schema id s) back some =
    let f : SchemaFields = record { name = s.name; encoding = s.encoding; payload = s.payload } in
    flat_kind_meets (rec_top (Schema id s)) (λ e. (id, f, schema_shown id f back (some id f refl))) (λ e. absurd (omega (arith, e))) (λ e. absurd (omega (arith, e))) (inl refl)
rec_meets (Channel id schema topic encoding metadata) back some =
    let f : ChannelFields = record { schema = schema; topic = topic; encoding = encoding; metadata = metadata } in
    flat_kind_meets (rec_top (Channel id schema topic encoding metadata)) (λ e. absurd (omega (arith, e))) (λ e. (id, f, channel_shown id f back)) (λ e. absurd (omega (arith, e))) (inr (inl refl))
rec_meets (Message channel sequence log_time publish_time payload) back some =
    let m : MessageFields = record { sequence = sequence; log_time = log_time; publish_time = publish_time; payload = payload } in
    flat_kind_meets (rec_top (Message channel sequence log_time publish_time payload)) (λ e. absurd (omega (arith, e))) (λ e. absurd (omega (arith, e))) (λ e. (channel, m, message_shown channel m back)) (inr (inr refl))
rec_meets (Extra op content) back some = extra_meets op content back.2

abbrev pub IsLow : ℕ → Type 0
IsLow op = (op ≡ 3) ⊎ ((op ≡ 4) ⊎ (op ≡ 5))

pub rec_low : (r : Rec) → IsInner r → IsLow (rec_opcode r)
rec_low (Schema id s) inner = inl refl
rec_low (Channel id schema topic encoding metadata) inner = inr (inl refl)
rec_low (Message channel sequence log_time publish_time payload) inner = inr (inr refl)
rec_low (Extra op content) inner = absurd (both_ways false refl inner)

not_low : (k : ℕ) → 5 < k → IsLow k → ⊥
not_low k high (inl e) = omega (arith, e)
not_low k high (inr (inl e)) = omega (arith, e)
not_low k high (inr (inr e)) = omega (arith, e)

-- no record has an opcode between those of Schemas, Channels, Messages and those of extras
pub rec_not : (r : Rec) (k : ℕ) → IsReadBack r → 5 < k → k < 128 → (k ≡ 9 → ⊥) → (k ≡ 12 → ⊥) → rec_opcode r ≡ k → ⊥
rec_not (Schema id s) k back high low a b e = omega (arith, high, e)
rec_not (Channel id schema topic encoding metadata) k back high low a b e = omega (arith, high, e)
rec_not (Message channel sequence log_time publish_time payload) k back high low a b e = omega (arith, high, e)
rec_not (Extra op content) k back high low a b e = extra_other op content k back.2 low a b e

pub rec_flat : (r : Rec) → IsInner r → flattened (rec_top r) ≡ rec_top r ∷ []
rec_flat (Schema id s) inner = refl
rec_flat (Channel id schema topic encoding metadata) inner = refl
rec_flat (Message channel sequence log_time publish_time payload) inner = refl
rec_flat (Extra op content) inner = absurd (both_ways false refl inner)

pub recs_flat : (history : List Rec) → Each IsInner history → flat (map rec_top history) ≡ map rec_top history
recs_flat [] inner = refl
recs_flat (r ∷ rs) inner = ap (λ (l : List Top). l ++ flat (map rec_top rs)) (rec_flat r (inner 0 r refl)) ∙ ap (λ (l : List Top). rec_top r ∷ l) (recs_flat rs (λ n x at. inner (suc n) x at))

-- an extra is neither flat nor a chunk
pub extra_not_flat : (op : ℕ) (content : List ℕ) → IsExtraContent op content → is_flat_kind (record { op = op; content = content }) ≡ false
extra_not_flat op content is =
    ap (λ (b : Bool). b || ((4 == op) || ((5 == op) || false))) (ne_eqb 3 op (λ e. extra_not op content 3 is (omega arith) (sym e)))
    ∙ ap (λ (b : Bool). b || ((5 == op) || false)) (ne_eqb 4 op (λ e. extra_not op content 4 is (omega arith) (sym e)))
    ∙ ap (λ (b : Bool). b || false) (ne_eqb 5 op (λ e. extra_not op content 5 is (omega arith) (sym e)))

pub extra_flattened : (op : ℕ) (content : List ℕ) → IsExtraContent op content → flattened (record { op = op; content = content }) ≡ []
extra_flattened op content is =
    let t : Top = record { op = op; content = content } in
    ap (λ (b : Bool). filter is_flat_kind (if b then inner_tops t else t ∷ [])) (ne_eqb op 6 (λ e. extra_not op content 6 is (omega arith) e))
    ∙ ap (λ (b : Bool). cond b (t ∷ []) []) (extra_not_flat op content is)

-- ---- a history's records

schema_of_top : (history : List Rec) (n : ℕ) (u : Top) (id : ℕ) (g : SchemaFields) → Each IsReadBack history → At (map rec_top history) n u → IsSchema u id g → (k : ℕ) × At history k (schema_of id g)
schema_of_top history n u id g back at is =
    let (r, there, same) = at_map rec_top history n u at in
    let shown : IsSchema (rec_top r) id g = subst (λ (t : Top). IsSchema t id g) same is in
    (n, subst (λ (x : Rec). At history n x) (schema_back r id g (back n r there) shown) there)

channel_of_top : (history : List Rec) (n : ℕ) (u : Top) (id : ℕ) (g : ChannelFields) → Each IsReadBack history → At (map rec_top history) n u → IsChannel u id g → (k : ℕ) × At history k (channel_of id g)
channel_of_top history n u id g back at is =
    let (r, there, same) = at_map rec_top history n u at in
    let shown : IsChannel (rec_top r) id g = subst (λ (t : Top). IsChannel t id g) same is in
    (n, subst (λ (x : Rec). At history n x) (channel_back r id g (back n r there) shown) there)

-- a Schema that is numbered has an id
numbered_some : (history : List Rec) (k id : ℕ) (s : SchemaFields) → Numbered history → At history k (schema_of id s) → id ≡ 0 → ⊥
numbered_some history k id s numbered at none =
    let follows : SchemaFollows (take k history) id s = numbered k (schema_of id s) at in
    omega (arith, follows.numbered, none)

has_schema_behind : (history : List Rec) (n id : ℕ) (s : SchemaFields) → Each IsReadBack history → Numbered history → At history n (schema_of id s) → HasSchema (map rec_top history) id
has_schema_behind history n id s back numbered at = record {
  place = n;
  top = rec_top (schema_of id s);
  shown = s;
  at = at_mapped rec_top history n (schema_of id s) at;
  is = schema_shown id s (back n (schema_of id s) at) (numbered_some history n id s numbered at);
}

has_channel_behind : (history : List Rec) (n id : ℕ) (f : ChannelFields) → Each IsReadBack history → At history n (channel_of id f) → HasChannel (map rec_top history) id
has_channel_behind history n id f back at = record {
  place = n;
  top = rec_top (channel_of id f);
  shown = f;
  at = at_mapped rec_top history n (channel_of id f) at;
  is = channel_shown id f (back n (channel_of id f) at);
}

follows_as_schema : (history : List Rec) (r : Rec) (id : ℕ) (f : SchemaFields) → r ≡ schema_of id f → Follows history r → SchemaFollows history id f
follows_as_schema history r id f same follows = subst (Follows history) same follows

follows_as_channel : (history : List Rec) (r : Rec) (id : ℕ) (f : ChannelFields) → r ≡ channel_of id f → Follows history r → ChannelFollows history id f
follows_as_channel history r id f same follows = subst (Follows history) same follows

follows_as_message : (history : List Rec) (r : Rec) (id : ℕ) (m : MessageFields) → r ≡ message_of id m → Follows history r → MessageFollows history id
follows_as_message history r id m same follows = subst (Follows history) same follows

pub rec_agrees : (history : List Rec) (r : Rec) → Each IsReadBack history → Numbered history → IsReadBack r → Follows history r → Agrees (map rec_top history) (rec_top r)
rec_agrees history r back numbered own follows = record {
  schemas = λ id f g n u is at other.
      let mine = follows_as_schema history r id f (schema_back r id f own is) follows in
      let theirs = schema_of_top history n u id g back at other in
      let below = schema_id_below history theirs.0 id g numbered theirs.1 in
      absurd (omega (arith, mine.numbered, below));
  channels = λ id f g n u is at other.
      let mine = follows_as_channel history r id f (channel_back r id f own is) follows in
      let theirs = channel_of_top history n u id g back at other in
      let below = channel_id_below history theirs.0 id g numbered theirs.1 in
      absurd (omega (arith, mine.numbered, below));
  schema = λ id f is.
      let mine = follows_as_channel history r id f (channel_back r id f own is) follows in
      elim mine.schema [
        | inl none ↦ inl none
        | inr (n, s, at) ↦ inr (has_schema_behind history n f.schema s back numbered at)
      ];
  channel = λ id m is.
      let mine = follows_as_message history r id m (message_back r id m own is) follows in
      has_channel_behind history mine.0 id mine.1 back mine.2;
}

-- ---- all of it

take-map : {X Y : Type 0} (f : X → Y) (xs : List X) (n : ℕ) → take n (map f xs) ≡ map f (take n xs)
take-map f xs zero = refl
take-map f [] (suc n) = refl
take-map f (x ∷ xs) (suc n) = ap (λ l. f x ∷ l) (take-map f xs n)

behind_taken : {X : Type 0} (P : List X → X → Type 0) (xs : List X) (n : ℕ) → EachBehind P xs → EachBehind P (take n xs)
behind_taken {X} P xs n each = each_front P (take n xs) (drop n xs) (subst (λ (l : List X). EachBehind P l) (sym (take-append-drop n xs)) each)

-- each of its records but the extras is flat
pub recs_are_flat : (records : List Rec) → Each IsReadBack records → filter is_flat_kind (map rec_top records) ≡ map rec_top (body_of records)
recs_are_flat [] back = refl
recs_are_flat (Schema id s ∷ rs) back = ap (λ (l : List Top). rec_top (Schema id s) ∷ l) (recs_are_flat rs (λ n x at. back (suc n) x at))
recs_are_flat (Channel id schema topic encoding metadata ∷ rs) back = ap (λ (l : List Top). rec_top (Channel id schema topic encoding metadata) ∷ l) (recs_are_flat rs (λ n x at. back (suc n) x at))
recs_are_flat (Message channel sequence log_time publish_time payload ∷ rs) back = ap (λ (l : List Top). rec_top (Message channel sequence log_time publish_time payload) ∷ l) (recs_are_flat rs (λ n x at. back (suc n) x at))
recs_are_flat (Extra op content ∷ rs) back =
    ap (λ (b : Bool). cond b (record { op = op; content = content } ∷ filter is_flat_kind (map rec_top rs)) (filter is_flat_kind (map rec_top rs))) (extra_not_flat op content (back 0 (Extra op content) refl).2)
    ∙ recs_are_flat rs (λ n x at. back (suc n) x at)

-- so are those of a file with these records
pub flat_of_recs : (records : List Rec) → Each IsReadBack records → flat (map rec_top records) ≡ map rec_top (body_of records)
flat_of_recs [] back = refl
flat_of_recs (Schema id s ∷ rs) back = ap (λ (l : List Top). rec_top (Schema id s) ∷ l) (flat_of_recs rs (λ n x at. back (suc n) x at))
flat_of_recs (Channel id schema topic encoding metadata ∷ rs) back = ap (λ (l : List Top). rec_top (Channel id schema topic encoding metadata) ∷ l) (flat_of_recs rs (λ n x at. back (suc n) x at))
flat_of_recs (Message channel sequence log_time publish_time payload ∷ rs) back = ap (λ (l : List Top). rec_top (Message channel sequence log_time publish_time payload) ∷ l) (flat_of_recs rs (λ n x at. back (suc n) x at))
flat_of_recs (Extra op content ∷ rs) back =
    ap (λ (l : List Top). l ++ flat (map rec_top rs)) (extra_flattened op content (back 0 (Extra op content) refl).2) ∙ flat_of_recs rs (λ n x at. back (suc n) x at)

pub recs_agree : (history : List Rec) → Each IsReadBack history → IdsAgree history → EachBehind Agrees (map rec_top (body_of history))
recs_agree history back agree = subst (EachBehind Agrees) (recs_are_flat history back) agree

-- the ids of a numbered history's records agree, those in front of one with it
numbered_agree : (history : List Rec) → Each IsReadBack history → Numbered history → EachBehind Agrees (map rec_top history)
numbered_agree history back numbered n t at =
    let (r, there, same) = at_map rec_top history n t at in
    let agrees = rec_agrees (take n history) r (each_taken IsReadBack history n back) (behind_taken Follows history n numbered) (back n r there) (numbered n r there) in
    subst (λ (x : Top). Agrees (take n (map rec_top history)) x) (sym same) (subst (λ (l : List Top). Agrees l (rec_top r)) (sym (take-map rec_top history n)) agrees)

pub numbered_ids_agree : NumberedIdsAgree
numbered_ids_agree history back numbered = (
  subst (EachBehind Agrees) (sym (recs_are_flat history back)) (numbered_agree (body_of history) (each_body IsReadBack history back) (numbered_body history numbered)),
  λ n r at id f same none.
      let mine = follows_as_schema (take n history) r id f same (numbered n r at) in
      omega (arith, mine.numbered, none),
)

-- ---- records that a reading takes

pub within_there : (at len : ℕ) → len ≤ 268435456 → at + 9 + len ≤ 1099511627776 → is_beyond reading_limits at len ≡ false
within_there at len short near = or_from (nat_lt 268435456 len) (nat_lt 1099511627776 (at + 9 + len)) (le-ltb 268435456 len short) (le-ltb 1099511627776 (at + 9 + len) near)

pub flat_none : (before : List Top) (t : Top) → flattened t ≡ [] → V7 before t
flat_none before t none n u at = absurd (at_none n u (subst (λ (l : List Top). At l n u) none at))
