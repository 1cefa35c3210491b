-- In a numbered history an id is one record's, and so is the content of a Schema.
use Rattle.std.proofs.Common.{◌≡◌, ℕ, ◌<◌, List, take, drop, sym, subst, inl, inr, arith}
use Rattle.std.proofs.lemmas.Bool.{cases_lt}
use Rattle.std.proofs.lemmas.List.{take-append-drop}
use Rattle.rec_data.specs.declared.owned.Rec.{Rec}
use Rattle.mcap_model.specs.Places.{At}
use Rattle.mcap_model.specs.Fields.{SchemaFields, ChannelFields}
use Rattle.mcap_model.specs.History.{schema_of, channel_of, Follows, SchemaFollows, ChannelFollows, Numbered}
use Rattle.mcap_model.proofs.Places.{at_one, each_front}
use Rattle.mcap_model.proofs.Lists.{at_taken}
use Rattle.mcap_model.proofs.ReadBack.{schema_id_below, channel_id_below}

pub numbered_front : (history : List Rec) (n : ℕ) → Numbered history → Numbered (take n history)
numbered_front history n numbered = each_front Follows (take n history) (drop n history) (subst Numbered (sym (take-append-drop n history)) numbered)

-- ---- schemas

-- a later one has a greater id
schema_later : (history : List Rec) (n m id other : ℕ) (f g : SchemaFields) → Numbered history → At history n (schema_of id f) → At history m (schema_of other g) → n < m → id < other
schema_later history n m id other f g numbered at_n at_m less =
    let follows : SchemaFollows (take m history) other g = numbered m (schema_of other g) at_m in
    let next = follows.numbered in
    let below = schema_id_below (take m history) n id f (numbered_front history m numbered) (at_taken history m n (schema_of id f) less at_n) in
    omega (arith, below, next)

pub schema_place_one : (history : List Rec) (n m id : ℕ) (f g : SchemaFields) → Numbered history → At history n (schema_of id f) → At history m (schema_of id g) → n ≡ m
schema_place_one history n m id f g numbered at_n at_m = elim (cases_lt n m) [
  | inl lt ↦ absurd (let less = schema_later history n m id id f g numbered at_n at_m lt in omega (arith, less))
  | inr ge ↦ elim (cases_lt m n) [
    | inl lt ↦ absurd (let less = schema_later history m n id id g f numbered at_m at_n lt in omega (arith, less))
    | inr le ↦ omega (arith, ge, le)
  ]
]

pub schema_some : (history : List Rec) (n id : ℕ) (f : SchemaFields) → Numbered history → At history n (schema_of id f) → 0 < id
schema_some history n id f numbered at =
    let follows : SchemaFollows (take n history) id f = numbered n (schema_of id f) at in
    let next = follows.numbered in
    omega (arith, next)

-- a later one has another content
schema_new : (history : List Rec) (n m id other : ℕ) (f : SchemaFields) → Numbered history → At history n (schema_of id f) → At history m (schema_of other f) → n < m → ⊥
schema_new history n m id other f numbered at_n at_m less =
    let follows : SchemaFollows (take m history) other f = numbered m (schema_of other f) at_m in
    follows.is_new n id (at_taken history m n (schema_of id f) less at_n)

-- so a content has one id
pub schema_id_one : (history : List Rec) (n m id other : ℕ) (f : SchemaFields) → Numbered history → At history n (schema_of id f) → At history m (schema_of other f) → id ≡ other
schema_id_one history n m id other f numbered at_n at_m = elim (cases_lt n m) [
  | inl lt ↦ absurd (schema_new history n m id other f numbered at_n at_m lt)
  | inr ge ↦ elim (cases_lt m n) [
    | inl lt ↦ absurd (schema_new history m n other id f numbered at_m at_n lt)
    | inr le ↦
        let here : n ≡ m = omega (arith, ge, le) in
        let same : schema_of id f ≡ schema_of other f = at_one history m (schema_of id f) (schema_of other f) (subst (λ (p : ℕ). At history p (schema_of id f)) here at_n) at_m in
        cc
  ]
]

-- ---- channels

-- a later one has a greater id
channel_later : (history : List Rec) (n m id other : ℕ) (f g : ChannelFields) → Numbered history → At history n (channel_of id f) → At history m (channel_of other g) → n < m → id < other
channel_later history n m id other f g numbered at_n at_m less =
    let follows : ChannelFollows (take m history) other g = numbered m (channel_of other g) at_m in
    let next = follows.numbered in
    let below = channel_id_below (take m history) n id f (numbered_front history m numbered) (at_taken history m n (channel_of id f) less at_n) in
    omega (arith, below, next)

pub channel_place_one : (history : List Rec) (n m id : ℕ) (f g : ChannelFields) → Numbered history → At history n (channel_of id f) → At history m (channel_of id g) → n ≡ m
channel_place_one history n m id f g numbered at_n at_m = elim (cases_lt n m) [
  | inl lt ↦ absurd (let less = channel_later history n m id id f g numbered at_n at_m lt in omega (arith, less))
  | inr ge ↦ elim (cases_lt m n) [
    | inl lt ↦ absurd (let less = channel_later history m n id id g f numbered at_m at_n lt in omega (arith, less))
    | inr le ↦ omega (arith, ge, le)
  ]
]
