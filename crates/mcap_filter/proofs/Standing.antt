-- Where a Channel stands in what is written, so does what it needs.
use Rattle.std.proofs.Common.{◌≡◌, ◌⊎◌, ℕ, Bool, true, false, ◌||◌, List, [], ◌∷◌, ◌++◌, Option, Some, None, refl, sym, ap, subst, inl, inr, ◌∙◌, eq-eqb}
use Rattle.std.specs.Prelude.{fold, find, if◌then◌else◌, eqb}
use Rattle.std.specs.List.{list_any, flat_map}
use Rattle.std.specs.Option.{option_to_list}
use Rattle.std.proofs.lemmas.Bool.{false≢true, eqb-true}
use Rattle.rec_data.specs.declared.owned.Rec.{Rec}
use Rattle.rec_data.specs.declared.owned.Rec.TheVariants.{Schema, Channel, Message, Extra}
use Rattle.mcap_model.specs.Fields.{ChannelFields}
use Rattle.mcap_model.specs.History.{declare_same, kept_with, channel_of}
use Rattle.mcap_model.proofs.Repairs.{kept_new, kept_old, fold_grows, fold_more}
use Rattle.mcap_model.specs.Needed.{is_schema_of, is_channel_of, schema_with, schema_for, needs_on}
use Rattle.mcap_filter.specs.Picked.{Asking, is_picked, filtered}
use Rattle.mcap_filter.proofs.Finding.{find_there}
use Rattle.mcap_filter.proofs.Growing.{uses_of, filtered_is}

-- ---- records of which each declares what is declared among others

-- each of the first declares an id that is declared among the second
abbrev pub StandIn : List Rec → List Rec → Type 0
StandIn [] out = Unit {0}
StandIn (r ∷ rs) out = (list_any (declare_same r) out ≡ true) × StandIn rs out

any_front : (p : Rec → Bool) (xs ys : List Rec) → list_any p xs ≡ true → list_any p (xs ++ ys) ≡ true
any_front p [] ys is = absurd (false≢true is)
any_front p (x ∷ xs) ys is = by (p x) is (any_front p xs ys)
  where
    by : (b : Bool) → (b || list_any p xs) ≡ true → (list_any p xs ≡ true → list_any p (xs ++ ys) ≡ true) → (b || list_any p (xs ++ ys)) ≡ true
    by true there rest = refl
    by false there rest = rest there

any_parts : (p : Rec → Bool) (xs ys : List Rec) → list_any p (xs ++ ys) ≡ true → (list_any p xs ≡ true) ⊎ (list_any p ys ≡ true)
any_parts p [] ys is = inr is
any_parts p (x ∷ xs) ys is = by (p x) is (any_parts p xs ys)
  where
    by : (b : Bool) → (b || list_any p (xs ++ ys)) ≡ true → (list_any p (xs ++ ys) ≡ true → (list_any p xs ≡ true) ⊎ (list_any p ys ≡ true)) → ((b || list_any p xs) ≡ true) ⊎ (list_any p ys ≡ true)
    by true there rest = inl refl
    by false there rest = rest there

any_last : (p : Rec → Bool) (xs : List Rec) (y : Rec) → p y ≡ true → list_any p (xs ++ y ∷ []) ≡ true
any_last p [] y test = ap (λ (b : Bool). b || false) test
any_last p (x ∷ xs) y test = by (p x) (any_last p xs y test)
  where
    by : (b : Bool) → list_any p (xs ++ y ∷ []) ≡ true → (b || list_any p (xs ++ y ∷ [])) ≡ true
    by true rest = refl
    by false rest = rest

stand_more : (rs out more : List Rec) → StandIn rs out → StandIn rs (out ++ more)
stand_more [] out more are = tt
stand_more (r ∷ rs) out more are = (any_front (declare_same r) out more are.0, stand_more rs out more are.1)

stand_fold : (rs out ss : List Rec) → StandIn rs out → StandIn rs (fold kept_with out ss)
stand_fold rs out ss are = let (more, is) = fold_grows out ss in subst (StandIn rs) is (stand_more rs out more are)

-- what stands there is left out
pub stand_left : (rs out : List Rec) → StandIn rs out → fold kept_with out rs ≡ out
stand_left [] out are = refl
stand_left (r ∷ rs) out are = ap (λ (l : List Rec). fold kept_with l rs) (kept_old out r are.0) ∙ stand_left rs out are.1

-- each of them declares an id
abbrev pub Declare : List Rec → Type 0
Declare [] = Unit {0}
Declare (r ∷ rs) = (declare_same r r ≡ true) × Declare rs

stands_kept : (out : List Rec) (r : Rec) → declare_same r r ≡ true → list_any (declare_same r) (kept_with out r) ≡ true
stands_kept out r is = by (list_any (declare_same r) out) refl
  where
    by : (b : Bool) → list_any (declare_same r) out ≡ b → list_any (declare_same r) (kept_with out r) ≡ true
    by true known = ap (list_any (declare_same r)) (kept_old out r known) ∙ known
    by false fresh = ap (list_any (declare_same r)) (kept_new out r fresh) ∙ any_last (declare_same r) out r is

-- what was put stands there
put_stand : (rs out : List Rec) → Declare rs → StandIn rs (fold kept_with out rs)
put_stand [] out are = tt
put_stand (r ∷ rs) out are =
    let (more, is) = fold_grows (kept_with out r) rs in
    (subst (λ (l : List Rec). list_any (declare_same r) l ≡ true) is (any_front (declare_same r) (kept_with out r) more (stands_kept out r are.0)), put_stand rs (kept_with out r) are.1)

kept_parts : (p : Rec → Bool) (out rs : List Rec) → list_any p (fold kept_with out rs) ≡ true → (list_any p out ≡ true) ⊎ (list_any p rs ≡ true)
kept_parts p out [] is = inl is
kept_parts p out (r ∷ rs) is = elim (kept_parts p (kept_with out r) rs is) [
  | inl front ↦ by (list_any (declare_same r) out) front
  | inr behind ↦ inr (by_or (p r) behind)
]
  where
    by_or : (b : Bool) → list_any p rs ≡ true → (b || list_any p rs) ≡ true
    by_or true there = refl
    by_or false there = there

    first : (b : Bool) → (b || false) ≡ true → (b || list_any p rs) ≡ true
    first true there = refl
    first false there = absurd (false≢true there)

    by : (b : Bool) → list_any p (if b then out else out ++ r ∷ []) ≡ true → (list_any p out ≡ true) ⊎ (list_any p (r ∷ rs) ≡ true)
    by true there = inl there
    by false there = elim (any_parts p out (r ∷ []) there) [ inl old ↦ inl old | inr here ↦ inr (first (p r) here) ]

-- ---- what is needed

declare_parts : (rs ss : List Rec) → Declare rs → Declare ss → Declare (rs ++ ss)
declare_parts [] ss one two = two
declare_parts (r ∷ rs) ss one two = (one.0, declare_parts rs ss one.1 two)

schema_declares : (history : List Rec) (id : ℕ) → Declare (schema_with history id)
schema_declares history id = by (eqb id 0) (find (is_schema_of id) history) refl
  where
    by : (b : Bool) (o : Option Rec) → find (is_schema_of id) history ≡ o → Declare (if b then [] else option_to_list o)
    by true o is = tt
    by false None is = tt
    by false (Some (Schema i s)) is = (eq-eqb i i refl, tt)
    by false (Some (Channel i s topic encoding metadata)) is = (eq-eqb i i refl, tt)
    by false (Some (Message c sequence log_time publish_time payload)) is = let (n, at, test) = find_there (is_schema_of id) history (Message c sequence log_time publish_time payload) is in absurd (false≢true test)
    by false (Some (Extra op content)) is = let (n, at, test) = find_there (is_schema_of id) history (Extra op content) is in absurd (false≢true test)

schema_for_declares : (history : List Rec) (c : Rec) → Declare (schema_for history c)
schema_for_declares history (Schema id schema) = tt
schema_for_declares history (Channel id schema topic encoding metadata) = schema_declares history schema
schema_for_declares history (Message channel sequence log_time publish_time payload) = tt
schema_for_declares history (Extra op content) = tt

needs_declare : (history : List Rec) (id : ℕ) → Declare (needs_on history id)
needs_declare history id = by (find (is_channel_of id) history) refl
  where
    found : (c : Rec) → declare_same c c ≡ true → Declare ((schema_for history c ++ []) ++ c ∷ [])
    found c is = declare_parts (schema_for history c ++ []) (c ∷ []) (declare_parts (schema_for history c) [] (schema_for_declares history c) tt) (is, tt)

    by : (o : Option Rec) → find (is_channel_of id) history ≡ o → Declare (flat_map (schema_for history) (option_to_list o) ++ option_to_list o)
    by None is = tt
    by (Some (Schema i s)) is = found (Schema i s) (eq-eqb i i refl)
    by (Some (Channel i s topic encoding metadata)) is = found (Channel i s topic encoding metadata) (eq-eqb i i refl)
    by (Some (Message c sequence log_time publish_time payload)) is = let (n, at, test) = find_there (is_channel_of id) history (Message c sequence log_time publish_time payload) is in absurd (false≢true test)
    by (Some (Extra op content)) is = let (n, at, test) = find_there (is_channel_of id) history (Extra op content) is in absurd (false≢true test)

-- a Schema is no Channel
schema_no_channel : (history : List Rec) (s id : ℕ) (f : ChannelFields) → list_any (declare_same (channel_of id f)) (schema_with history s) ≡ true → ⊥
schema_no_channel history s id f = by (eqb s 0) (find (is_schema_of s) history) refl
  where
    by : (b : Bool) (o : Option Rec) → find (is_schema_of s) history ≡ o → list_any (declare_same (channel_of id f)) (if b then [] else option_to_list o) ≡ true → ⊥
    by true o is there = false≢true there
    by false None is there = false≢true there
    by false (Some (Schema i t)) is there = false≢true there
    by false (Some (Channel i t topic encoding metadata)) is there = let (n, at, test) = find_there (is_schema_of s) history (Channel i t topic encoding metadata) is in false≢true test
    by false (Some (Message c sequence log_time publish_time payload)) is there = false≢true there
    by false (Some (Extra op content)) is there = false≢true there

schema_for_no_channel : (history : List Rec) (c : Rec) (id : ℕ) (f : ChannelFields) → list_any (declare_same (channel_of id f)) (schema_for history c) ≡ true → ⊥
schema_for_no_channel history (Schema i schema) id f there = false≢true there
schema_for_no_channel history (Channel i schema topic encoding metadata) id f there = schema_no_channel history schema id f there
schema_for_no_channel history (Message channel sequence log_time publish_time payload) id f there = false≢true there
schema_for_no_channel history (Extra op content) id f there = false≢true there

-- the only Channel that is needed is that of the id
needs_channel : (history : List Rec) (channel id : ℕ) (f : ChannelFields) → list_any (declare_same (channel_of id f)) (needs_on history channel) ≡ true → id ≡ channel
needs_channel history channel id f = by (find (is_channel_of channel) history) refl
  where
    same : (p : Rec → Bool) (b : Bool) → (b || false) ≡ true → b ≡ true
    same p true there = refl
    same p false there = there

    found : (c : Rec) → list_any (declare_same (channel_of id f)) ((schema_for history c ++ []) ++ c ∷ []) ≡ true → declare_same (channel_of id f) c ≡ true
    found c there = elim (any_parts (declare_same (channel_of id f)) (schema_for history c ++ []) (c ∷ []) there) [
      | inl front ↦ elim (any_parts (declare_same (channel_of id f)) (schema_for history c) [] front) [
        | inl schema ↦ absurd (schema_for_no_channel history c id f schema)
        | inr none ↦ absurd (false≢true none)
      ]
      | inr here ↦ same (declare_same (channel_of id f)) (declare_same (channel_of id f) c) here
    ]

    by : (o : Option Rec) → find (is_channel_of channel) history ≡ o → list_any (declare_same (channel_of id f)) (flat_map (schema_for history) (option_to_list o) ++ option_to_list o) ≡ true → id ≡ channel
    by None is there = absurd (false≢true there)
    by (Some (Schema i s)) is there = absurd (false≢true (found (Schema i s) there))
    by (Some (Channel i s topic encoding metadata)) is there =
        let (n, at, test) = find_there (is_channel_of channel) history (Channel i s topic encoding metadata) is in
        eqb-true id i (found (Channel i s topic encoding metadata) there) ∙ sym (eqb-true channel i test)
    by (Some (Message c sequence log_time publish_time payload)) is there = absurd (false≢true (found (Message c sequence log_time publish_time payload) there))
    by (Some (Extra op content)) is there = absurd (false≢true (found (Extra op content) there))

-- ---- what is written

-- where a Channel of an id stands, there stands what a Message on it needs
abbrev pub Stands : List Rec → List Rec → Type 0
Stands history out = (id : ℕ) (f : ChannelFields) → list_any (declare_same (channel_of id f)) out ≡ true → StandIn (needs_on history id) out

stands_on : (a : Asking) (history out : List Rec) (r : Rec) → Stands history out → Stands history (fold kept_with out (uses_of a history r))
stands_on a history out (Schema i schema) was = was
stands_on a history out (Channel i schema topic encoding metadata) was = was
stands_on a history out (Extra op content) was = was
stands_on a history out (Message channel sequence log_time publish_time payload) was = by (is_picked a history (Message channel sequence log_time publish_time payload))
  where
    last : (id : ℕ) (f : ChannelFields) → list_any (declare_same (channel_of id f)) (needs_on history channel ++ Message channel sequence log_time publish_time payload ∷ []) ≡ true → id ≡ channel
    last id f there = elim (any_parts (declare_same (channel_of id f)) (needs_on history channel) (Message channel sequence log_time publish_time payload ∷ []) there) [
      | inl front ↦ needs_channel history channel id f front
      | inr none ↦ absurd (false≢true none)
    ]

    put : StandIn (needs_on history channel) (fold kept_with out (needs_on history channel ++ Message channel sequence log_time publish_time payload ∷ []))
    put =
        let r = Message channel sequence log_time publish_time payload in
        subst (StandIn (needs_on history channel)) (sym (fold_more out (needs_on history channel) (r ∷ [])))
        (stand_fold (needs_on history channel) (fold kept_with out (needs_on history channel)) (r ∷ []) (put_stand (needs_on history channel) out (needs_declare history channel)))

    by : (b : Bool) → Stands history (fold kept_with out (if b then needs_on history channel ++ Message channel sequence log_time publish_time payload ∷ [] else []))
    by false = was
    by true = λ id f there.
        let uses = needs_on history channel ++ Message channel sequence log_time publish_time payload ∷ [] in
        elim (kept_parts (declare_same (channel_of id f)) out uses there) [
          | inl old ↦ stand_fold (needs_on history id) out uses (was id f old)
          | inr new ↦ subst (λ (n : ℕ). StandIn (needs_on history n) (fold kept_with out uses)) (sym (last id f new)) put
        ]

stands_all : (a : Asking) (history out rs : List Rec) → Stands history out → Stands history (fold kept_with out (flat_map (uses_of a history) rs))
stands_all a history out [] was = was
stands_all a history out (r ∷ rs) was =
    subst (Stands history) (sym (fold_more out (uses_of a history r) (flat_map (uses_of a history) rs)))
    (stands_all a history (fold kept_with out (uses_of a history r)) rs (stands_on a history out r was))

pub stands_filtered : (a : Asking) (history : List Rec) → Stands history (filtered a history)
stands_filtered a history = subst (Stands history) (sym (filtered_is a history)) (stands_all a history [] history (λ id f there. absurd (false≢true there)))
