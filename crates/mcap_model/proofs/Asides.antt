-- A history without its extras, and its extras alone.
use Rattle.std.proofs.Common.{◌≡◌, ◌⊎◌, ℕ, zero, suc, ◌+◌, Bool, true, false, List, [], ◌∷◌, ◌++◌, length, take, map, refl, sym, ap, subst, inl, inr, ◌∙◌, cond}
use Rattle.std.specs.Prelude.{filter, not}
use Rattle.std.proofs.lemmas.Bool.{both_ways}
use Rattle.std.proofs.lemmas.List.{append-nil, map-append}
use Rattle.std.proofs.lemmas.List.Elements.{filter-append}
use Rattle.rec_data.specs.declared.owned.Rec.{Rec}
use Rattle.rec_data.specs.declared.owned.Rec.TheVariants.{Schema, Channel, Message, Extra}
use Rattle.mcap_model.specs.Places.{At, Each, EachBehind}
use Rattle.mcap_model.specs.History.{schema_of, channel_of, is_schema, is_channel, is_message, is_inner, body_of, rec_top, extras_in, schema_count, channel_count, Follows, Numbered}
use Rattle.mcap_model.specs.Laws.{IsInner}
use Rattle.mcap_model.proofs.Places.{at_none}
use Rattle.mcap_model.proofs.Lists.{filter_passed, filter_has}
use Rattle.std.proofs.lemmas.Option.{same_Some}

-- ---- what passes a test

-- where what passes stands among all, with what passes in front of it
pub filter_at : {X : Type 0} (test : X → Bool) (xs : List X) (m : ℕ) (x : X) → At (filter test xs) m x → (n : ℕ) × At xs n x × (test x ≡ true) × (take m (filter test xs) ≡ filter test (take n xs))
filter_at test [] m x at = absurd (at_none m x at)
filter_at {X} test (y ∷ xs) m x at = by (test y) refl m at (λ k there. filter_at test xs k x there)
  where
    by : (b : Bool) → test y ≡ b → (m : ℕ) → At (cond b (y ∷ filter test xs) (filter test xs)) m x → ((k : ℕ) → At (filter test xs) k x → (n : ℕ) × At xs n x × (test x ≡ true) × (take k (filter test xs) ≡ filter test (take n xs)))
        → (n : ℕ) × At (y ∷ xs) n x × (test x ≡ true) × (take m (cond b (y ∷ filter test xs) (filter test xs)) ≡ filter test (take n (y ∷ xs)))
    by true is zero there rest = (0, there, ap test (sym (same_Some y x there)) ∙ is, refl)
    by true is (suc m) there rest =
        let (n, at_n, passes, front) = rest m there in
        (suc n, at_n, passes, ap (λ (l : List X). y ∷ l) front ∙ sym (ap (λ (b : Bool). cond b (y ∷ filter test (take n xs)) (filter test (take n xs))) is))
    by false is m there rest =
        let (n, at_n, passes, front) = rest m there in
        (suc n, at_n, passes, front ∙ sym (ap (λ (b : Bool). cond b (y ∷ filter test (take n xs)) (filter test (take n xs))) is))

pub filter_behind : {X : Type 0} (P : List X → X → Type 0) (test : X → Bool) (xs : List X) → ((before : List X) (x : X) → test x ≡ true → P before x → P (filter test before) x) → EachBehind P xs → EachBehind P (filter test xs)
filter_behind {X} P test xs less each m x at =
    let (n, there, passes, front) = filter_at test xs m x at in
    subst (λ (l : List X). P l x) (sym front) (less (take n xs) x passes (each n x there))

-- of what passes one test all passes another
pub filter_twice : {X : Type 0} (test other : X → Bool) (xs : List X) → ((x : X) → test x ≡ true → other x ≡ true) → filter test (filter other xs) ≡ filter test xs
filter_twice test other [] more = refl
filter_twice {X} test other (x ∷ xs) more = by (other x) (test x) refl refl (filter_twice test other xs more)
  where
    by : (a b : Bool) → other x ≡ a → test x ≡ b → filter test (filter other xs) ≡ filter test xs → filter test (cond a (x ∷ filter other xs) (filter other xs)) ≡ cond b (x ∷ filter test xs) (filter test xs)
    by true b is same rest = ap (λ (c : Bool). cond c (x ∷ filter test (filter other xs)) (filter test (filter other xs))) same ∙ ap (λ (l : List X). cond b (x ∷ l) l) rest
    by false true is same rest = absurd (both_ways (other x) is (more x same))
    by false false is same rest = rest

pub filter_all : {X : Type 0} (test : X → Bool) (xs : List X) → Each (λ x. test x ≡ true) xs → filter test xs ≡ xs
filter_all test [] each = refl
filter_all {X} test (x ∷ xs) each =
    ap (λ (b : Bool). cond b (x ∷ filter test xs) (filter test xs)) (each 0 x refl)
    ∙ ap (λ (l : List X). x ∷ l) (filter_all test xs (λ n y at. each (suc n) y at))

pub filter_none : {X : Type 0} (test : X → Bool) (xs : List X) → Each (λ x. test x ≡ false) xs → filter test xs ≡ []
filter_none test [] each = refl
filter_none {X} test (x ∷ xs) each =
    ap (λ (b : Bool). cond b (x ∷ filter test xs) (filter test xs)) (each 0 x refl) ∙ filter_none test xs (λ n y at. each (suc n) y at)

-- ---- records that are no extras

abbrev pub is_aside : Rec → Bool
is_aside r = not (is_inner r)

pub schema_inner : (r : Rec) → is_schema r ≡ true → is_inner r ≡ true
schema_inner (Schema id s) is = refl
schema_inner (Channel id schema topic encoding metadata) is = absurd (both_ways false refl is)
schema_inner (Message channel sequence log_time publish_time payload) is = absurd (both_ways false refl is)
schema_inner (Extra op content) is = absurd (both_ways false refl is)

pub channel_inner : (r : Rec) → is_channel r ≡ true → is_inner r ≡ true
channel_inner (Schema id s) is = absurd (both_ways false refl is)
channel_inner (Channel id schema topic encoding metadata) is = refl
channel_inner (Message channel sequence log_time publish_time payload) is = absurd (both_ways false refl is)
channel_inner (Extra op content) is = absurd (both_ways false refl is)

pub message_inner : (r : Rec) → is_message r ≡ true → is_inner r ≡ true
message_inner (Schema id s) is = absurd (both_ways false refl is)
message_inner (Channel id schema topic encoding metadata) is = absurd (both_ways false refl is)
message_inner (Message channel sequence log_time publish_time payload) is = refl
message_inner (Extra op content) is = absurd (both_ways false refl is)

pub aside_if : (r : Rec) (b : Bool) → is_inner r ≡ b → is_aside r ≡ not b
aside_if r b is = ap not is

-- an extra among them
pub inner_or : (r : Rec) → (is_inner r ≡ true) ⊎ ((op : ℕ) × (content : List ℕ) × (r ≡ Extra op content))
inner_or (Schema id s) = inl refl
inner_or (Channel id schema topic encoding metadata) = inl refl
inner_or (Message channel sequence log_time publish_time payload) = inl refl
inner_or (Extra op content) = inr (op, content, refl)

-- ---- the body of a history

pub body_inner : (history : List Rec) → Each IsInner (body_of history)
body_inner history n r at = (filter_passed is_inner history n r at).1

pub body_whole : (history : List Rec) → Each IsInner history → body_of history ≡ history
body_whole history inner = filter_all is_inner history inner

pub no_extras : (history : List Rec) → Each IsInner history → extras_in history ≡ []
no_extras history inner = ap (map rec_top) (filter_none is_aside history (λ n r at. aside_if r true (inner n r at)))

pub body_append : (xs ys : List Rec) → body_of (xs ++ ys) ≡ body_of xs ++ body_of ys
body_append xs ys = filter-append is_inner xs ys

pub extras_append : (xs ys : List Rec) → extras_in (xs ++ ys) ≡ extras_in xs ++ extras_in ys
extras_append xs ys = ap (map rec_top) (filter-append is_aside xs ys) ∙ map-append rec_top (filter is_aside xs) (filter is_aside ys)

-- with one record more
pub body_with : (history : List Rec) (r : Rec) → is_inner r ≡ true → body_of (history ++ r ∷ []) ≡ body_of history ++ r ∷ []
body_with history r is = filter-append is_inner history (r ∷ []) ∙ ap (λ (b : Bool). body_of history ++ cond b (r ∷ []) []) is

pub body_without : (history : List Rec) (r : Rec) → is_inner r ≡ false → body_of (history ++ r ∷ []) ≡ body_of history
body_without history r is = filter-append is_inner history (r ∷ []) ∙ ap (λ (b : Bool). body_of history ++ cond b (r ∷ []) []) is ∙ append-nil (body_of history)

pub each_body : (P : Rec → Type 0) (history : List Rec) → Each P history → Each P (body_of history)
each_body P history each n r at = let has = (filter_passed is_inner history n r at).0 in each has.0 r has.1

-- ---- a numbered history

schemas_stay : (before : List Rec) → schema_count (body_of before) ≡ schema_count before
schemas_stay before = ap (λ (l : List Rec). length l) (filter_twice is_schema is_inner before schema_inner)

channels_stay : (before : List Rec) → channel_count (body_of before) ≡ channel_count before
channels_stay before = ap (λ (l : List Rec). length l) (filter_twice is_channel is_inner before channel_inner)

follows_inner : (before : List Rec) (r : Rec) → is_inner r ≡ true → Follows before r → Follows (body_of before) r
follows_inner before (Schema id s) inner follows = record {
  numbered = follows.numbered ∙ ap (λ (n : ℕ). n + 1) (sym (schemas_stay before));
  is_new = λ n other at. let has = (filter_passed is_inner before n (schema_of other (record { name = s.name; encoding = s.encoding; payload = s.payload })) at).0 in follows.is_new has.0 other has.1;
}
follows_inner before (Channel id schema topic encoding metadata) inner follows = record {
  numbered = follows.numbered ∙ ap (λ (n : ℕ). n + 1) (sym (channels_stay before));
  schema = elim follows.schema [
    | inl none ↦ inl none
    | inr (n, s, at) ↦ let has = filter_has is_inner before n (schema_of schema s) at refl in inr (has.0, s, has.1)
  ];
  order = follows.order;
  is_new = λ n other g at same. let has = (filter_passed is_inner before n (channel_of other g) at).0 in follows.is_new has.0 other g has.1 same;
}
follows_inner before (Message channel sequence log_time publish_time payload) inner (n, f, at) =
    let has = filter_has is_inner before n (channel_of channel f) at refl in (has.0, f, has.1)
follows_inner before (Extra op content) inner follows = absurd (both_ways false refl inner)

pub numbered_body : (history : List Rec) → Numbered history → Numbered (body_of history)
numbered_body history numbered = filter_behind Follows is_inner history follows_inner numbered
