-- What is found in lists that grow.
use Rattle.std.proofs.Common.{◌≡◌, ◌⊎◌, ℕ, zero, suc, Bool, true, false, ◌||◌, List, [], ◌∷◌, ◌++◌, length, Option, Some, None, refl, sym, ap, subst, inl, inr, ◌∙◌, cond}
use Rattle.std.specs.Prelude.{fold, find, is_some, if◌then◌else◌, eqb}
use Rattle.std.specs.List.{list_any}
use Rattle.std.proofs.lemmas.Bool.{false≢true, eqb-true}
use Rattle.rec_data.specs.declared.owned.Rec.{Rec}
use Rattle.rec_data.specs.declared.schema.SchemaDef.{SchemaDef}
use Rattle.rec_data.specs.declared.owned.Rec.TheVariants.{Schema, Channel, Message, Extra}
use Rattle.mcap_model.specs.Places.{At, Each}
use Rattle.mcap_model.proofs.Places.{at_none, at_more, at_last}
use Rattle.mcap_model.specs.History.{declare_same, kept_with}
use Rattle.mcap_model.specs.Needed.{is_schema_of, is_channel_of}

module _ {X : Type 0} where
  -- what is found is found in front of whatever follows
  pub find_kept : (p : X → Bool) (xs ys : List X) → is_some (find p xs) ≡ true → find p (xs ++ ys) ≡ find p xs
  find_kept p [] ys some = absurd (false≢true some)
  find_kept p (x ∷ xs) ys some = by (p x) some (find_kept p xs ys)
    where
      by : (b : Bool) → is_some (cond b (Some x) (find p xs)) ≡ true → (is_some (find p xs) ≡ true → find p (xs ++ ys) ≡ find p xs) → cond b (Some x) (find p (xs ++ ys)) ≡ cond b (Some x) (find p xs)
      by true there rest = refl
      by false there rest = rest there

  pub find_behind : (p : X → Bool) (xs ys : List X) → find p xs ≡ None → find p (xs ++ ys) ≡ find p ys
  find_behind p [] ys none = refl
  find_behind p (x ∷ xs) ys none = by (p x) none (find_behind p xs ys)
    where
      by : (b : Bool) → cond b (Some x) (find p xs) ≡ None → (find p xs ≡ None → find p (xs ++ ys) ≡ find p ys) → cond b (Some x) (find p (xs ++ ys)) ≡ find p ys
      by true there rest = absurd (cc)
      by false there rest = rest there

  some_or : (o : Option X) → (is_some o ≡ true) ⊎ (o ≡ None)
  some_or None = inr refl
  some_or (Some x) = inl refl

  -- an element that isn't looked for changes nothing
  pub find_apart : (p : X → Bool) (xs : List X) (y : X) → p y ≡ false → find p (xs ++ y ∷ []) ≡ find p xs
  find_apart p xs y other = elim (some_or (find p xs)) [
    | inl some ↦ find_kept p xs (y ∷ []) some
    | inr none ↦ find_behind p xs (y ∷ []) none ∙ ap (λ (b : Bool). cond b (Some y) None) other ∙ sym none
  ]

  pub find_there : (p : X → Bool) (xs : List X) (x : X) → find p xs ≡ Some x → (n : ℕ) × At xs n x × (p x ≡ true)
  find_there p [] x is = absurd (cc)
  find_there p (y ∷ xs) x is = by (p y) refl is (find_there p xs x)
    where
      by : (b : Bool) → p y ≡ b → cond b (Some y) (find p xs) ≡ Some x → (find p xs ≡ Some x → (n : ℕ) × At xs n x × (p x ≡ true)) → (n : ℕ) × At (y ∷ xs) n x × (p x ≡ true)
      by true test there rest = let same : y ≡ x = cc in (0, ap Some same, subst (λ (z : X). p z ≡ true) same test)
      by false test there rest = let (n, at, found) = rest there in (suc n, at, found)

  pub finds : (p : X → Bool) (xs : List X) (n : ℕ) (x : X) → At xs n x → p x ≡ true → is_some (find p xs) ≡ true
  finds p [] n x at test = absurd (at_none n x at)
  finds p (y ∷ xs) zero x at test = let same : y ≡ x = cc in ap (λ (b : Bool). is_some (cond b (Some y) (find p xs))) (ap p same ∙ test)
  finds p (y ∷ xs) (suc n) x at test = by (p y) (finds p xs n x at test)
    where
      by : (b : Bool) → is_some (find p xs) ≡ true → is_some (cond b (Some y) (find p xs)) ≡ true
      by true rest = refl
      by false rest = rest

  pub some_is : (o : Option X) → is_some o ≡ true → (x : X) × (o ≡ Some x)
  some_is None is = absurd (false≢true is)
  some_is (Some x) is = (x, refl)

-- ---- what declares an id

pub schema_listed : (id : ℕ) (r : Rec) (history : List Rec) → is_schema_of id r ≡ true → list_any (declare_same r) history ≡ is_some (find (is_schema_of id) history)
schema_listed id (Schema i s) history is = subst (λ (n : ℕ). list_any (declare_same (Schema i s)) history ≡ is_some (find (is_schema_of n) history)) (sym (eqb-true id i is)) (by i s history)
  where
    by : (n : ℕ) (t : SchemaDef) (rs : List Rec) → list_any (declare_same (Schema n t)) rs ≡ is_some (find (is_schema_of n) rs)
    by n t [] = refl
    by n t (Schema other u ∷ rs) = pick (eqb n other) (by n t rs)
      where
        pick : (b : Bool) → list_any (declare_same (Schema n t)) rs ≡ is_some (find (is_schema_of n) rs) → (b || list_any (declare_same (Schema n t)) rs) ≡ is_some (cond b (Some (Schema other u)) (find (is_schema_of n) rs))
        pick true rest = refl
        pick false rest = rest
    by n t (Channel other u topic encoding metadata ∷ rs) = by n t rs
    by n t (Message channel sequence log_time publish_time payload ∷ rs) = by n t rs
    by n t (Extra op content ∷ rs) = by n t rs
schema_listed id (Channel i s topic encoding metadata) history is = absurd (false≢true is)
schema_listed id (Message channel sequence log_time publish_time payload) history is = absurd (false≢true is)
schema_listed id (Extra op content) history is = absurd (false≢true is)

pub channel_listed : (id : ℕ) (r : Rec) (history : List Rec) → is_channel_of id r ≡ true → list_any (declare_same r) history ≡ is_some (find (is_channel_of id) history)
channel_listed id (Schema i s) history is = absurd (false≢true is)
channel_listed id (Channel i s topic encoding metadata) history is =
    subst (λ (n : ℕ). list_any (declare_same (Channel i s topic encoding metadata)) history ≡ is_some (find (is_channel_of n) history)) (sym (eqb-true id i is)) (by history)
  where
    by : (rs : List Rec) → list_any (declare_same (Channel i s topic encoding metadata)) rs ≡ is_some (find (is_channel_of i) rs)
    by [] = refl
    by (Schema other u ∷ rs) = by rs
    by (Channel other u t e m ∷ rs) = pick (eqb i other) (by rs)
      where
        pick : (b : Bool) → list_any (declare_same (Channel i s topic encoding metadata)) rs ≡ is_some (find (is_channel_of i) rs)
            → (b || list_any (declare_same (Channel i s topic encoding metadata)) rs) ≡ is_some (cond b (Some (Channel other u t e m)) (find (is_channel_of i) rs))
        pick true rest = refl
        pick false rest = rest
    by (Message channel sequence log_time publish_time payload ∷ rs) = by rs
    by (Extra op content ∷ rs) = by rs
channel_listed id (Message channel sequence log_time publish_time payload) history is = absurd (false≢true is)
channel_listed id (Extra op content) history is = absurd (false≢true is)

-- a test that looks for declarations of one id and kind
abbrev pub Declares : (Rec → Bool) → Type 0
Declares p = (r : Rec) (history : List Rec) → p r ≡ true → list_any (declare_same r) history ≡ is_some (find p history)

-- what is found among records is found without those that declare an id again
pub finds_kept : (p : Rec → Bool) → Declares p → (history rs : List Rec) → (is_some (find p history) ≡ true) ⊎ (is_some (find p rs) ≡ true) → is_some (find p (fold kept_with history rs)) ≡ true
finds_kept p declares history [] (inl some) = some
finds_kept p declares history [] (inr some) = absurd (false≢true some)
finds_kept p declares history (r ∷ rs) which = finds_kept p declares (kept_with history r) rs (by which (list_any (declare_same r) history) refl (p r) refl)
  where
    grown : is_some (find p history) ≡ true → (b : Bool) → list_any (declare_same r) history ≡ b → is_some (find p (kept_with history r)) ≡ true
    grown some true is = ap (λ (c : Bool). is_some (find p (if c then history else history ++ r ∷ []))) is ∙ some
    grown some false is = ap (λ (c : Bool). is_some (find p (if c then history else history ++ r ∷ []))) is ∙ ap is_some (find_kept p history (r ∷ []) some) ∙ some

    by : (is_some (find p history) ≡ true) ⊎ (is_some (find p (r ∷ rs)) ≡ true) → (b : Bool) → list_any (declare_same r) history ≡ b → (c : Bool) → p r ≡ c
        → (is_some (find p (kept_with history r)) ≡ true) ⊎ (is_some (find p rs) ≡ true)
    by (inl some) b is c test = inl (grown some b is)
    by (inr some) true is true test = inl (grown (sym (declares r history test) ∙ is) true is)
    by (inr some) false is true test = inl (ap (λ (d : Bool). is_some (find p (if d then history else history ++ r ∷ []))) is ∙ finds p (history ++ r ∷ []) (length history) r (at_last history r []) test)
    by (inr some) b is false test = inr (sym (ap (λ (d : Bool). is_some (cond d (Some r) (find p rs))) test) ∙ some)

-- each of them was there
pub kept_from : (P : Rec → Type 0) (history rs : List Rec) → Each P history → Each P rs → Each P (fold kept_with history rs)
kept_from P history [] each others = each
kept_from P history (r ∷ rs) each others = kept_from P (kept_with history r) rs (by (list_any (declare_same r) history)) (λ n x at. others (suc n) x at)
  where
    by : (b : Bool) → Each P (if b then history else history ++ r ∷ [])
    by true = each
    by false = λ n x at. elim (at_more history r n x at) [
      | inl old ↦ each n x old
      | inr here ↦ subst P (sym here.1) (others 0 r refl)
    ]
