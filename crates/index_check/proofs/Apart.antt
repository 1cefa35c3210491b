-- Elements with different keys, in any order; lists element by element.
use Rattle.std.proofs.Common.{◌≡◌, ℕ, suc, ◌+◌, ◌<◌, ◌≤◌, Bool, true, false, eqb, List, [], ◌∷◌, length, get_or, refl, sym, ap, subst, inl, inr, ◌∙◌, arith}
use Rattle.std.specs.Prelude.{AllPairs, IsPermutation, ◌≢◌, ◌&&◌, slice_get}
use Rattle.std.specs.List.{IsDistinct}
use Rattle.std.proofs.lemmas.Bool.{and_parts, cases_lt, ne_eqb, eqb-false, eqb-true, eq-eqb}
use Rattle.std.proofs.lemmas.List.Elements.{recursion_from_All, All-from_recursion}
use Rattle.std.proofs.lemmas.Map.Keys.{IsDistinct-IsPermutation}
use Rattle.std.proofs.lemmas.Option.{same_Some}
use Rattle.mcap_model.specs.Places.{At}
use Rattle.mcap_model.proofs.Places.{at_within, at_read, at_one}
use Rattle.mcap_model.proofs.Lists.{pairs_cons}

module _ {X : Type 0} (key : X → ℕ) where
  abbrev same_key : X → X → Bool
  same_key a b = eqb (key a) (key b)

  flips : (a b : X) → same_key a b ≡ same_key b a
  flips a b = by (same_key a b) refl
    where
      by : (s : Bool) → same_key a b ≡ s → same_key a b ≡ same_key b a
      by true is = is ∙ sym (eq-eqb (key b) (key a) (sym (eqb-true (key a) (key b) is)))
      by false is = is ∙ sym (ne_eqb (key b) (key a) (λ e. eqb-false (key a) (key b) is (sym e)))

  to_distinct : (xs : List X) → AllPairs (λ a b. key a ≢ key b) xs → IsDistinct same_key xs
  unfolding IsDistinct
  to_distinct [] differ = tt
  to_distinct (x ∷ xs) differ = (
    recursion_from_All (λ y. same_key x y ≡ false) xs (λ k d within. ne_eqb (key x) (key (get_or xs k d)) (differ 0 (suc k) d (omega arith) (omega (arith, within)))),
    to_distinct xs (λ i j d less within. differ (suc i) (suc j) d (omega (arith, less)) (omega (arith, within))),
  )

  from_distinct : (xs : List X) → IsDistinct same_key xs → AllPairs (λ a b. key a ≢ key b) xs
  unfolding IsDistinct
  from_distinct [] distinct = λ i j d less within. absurd (omega (arith, within))
  from_distinct (x ∷ xs) distinct =
      pairs_cons (λ a b. key a ≢ key b) x xs
      (λ n y at. let within = at_within xs n y at in
      let is : get_or xs n y ≡ y = at_one xs n (get_or xs n y) y (at_read xs n y within) at in
      eqb-false (key x) (key y) (subst (λ (z : X). same_key x z ≡ false) is (All-from_recursion (λ z. same_key x z ≡ false) xs distinct.0 n y within)))
      (from_distinct xs distinct.1)

  -- keys that differ stay so when they change places
  pub apart_moved : (xs ys : List X) → IsPermutation xs ys → AllPairs (λ a b. key a ≢ key b) xs → AllPairs (λ a b. key a ≢ key b) ys
  apart_moved xs ys moved differ = from_distinct ys (IsDistinct-IsPermutation same_key flips xs ys moved (to_distinct xs differ))

-- ---- lists, element by element

pub each_same : {X : Type 0} (xs ys : List X) → length xs ≡ length ys → ((k : ℕ) → k < length xs → slice_get xs k ≡ slice_get ys k) → xs ≡ ys
each_same [] [] size each = refl
each_same [] (y ∷ ys) size each = absurd (omega (arith, size))
each_same (x ∷ xs) [] size each = absurd (omega (arith, size))
each_same {X} (x ∷ xs) (y ∷ ys) size each =
    let head : x ≡ y = same_Some x y (each 0 (omega arith)) in
    let rest : xs ≡ ys = each_same xs ys (omega (arith, size)) (λ k within. each (suc k) (omega (arith, within))) in
    ap (λ (z : X). z ∷ xs) head ∙ ap (λ (l : List X). y ∷ l) rest

-- what holds of the elements in front of a place, and of the one there
pub front_more : {X : Type 0} (P : X → Type 0) (xs : List X) (i : ℕ) (x : X) → ((k : ℕ) (y : X) → At xs k y → k < i → P y) → At xs i x → P x → (k : ℕ) (y : X) → At xs k y → k < i + 1 → P y
front_more {X} P xs i x front at holds k y there less = elim (cases_lt k i) [
  | inl before ↦ front k y there before
  | inr past ↦
      let same : k ≡ i = omega (arith, past, less) in
      subst P (at_one xs i x y at (subst (λ (n : ℕ). At xs n y) same there)) holds
]

-- ---- elements that were read

pub at_index : {X : Type 0} (xs : List X) (i : ℕ) (x : X) → i < length xs → x ≡ get_or xs i x → At xs i x
at_index {X} xs i x within is = subst (λ (y : X). At xs i y) (sym is) (at_read xs i x within)

pub pair_is : (p : ℕ × ℕ) (a b : ℕ) → p.0 ≡ a → p.1 ≡ b → p ≡ (a, b)
pair_is p a b one other = ap (λ (x : ℕ). (x, p.1)) one ∙ ap (λ (y : ℕ). (a, y)) other

pub pair_tested : (p : ℕ × ℕ) (a b : ℕ) → (eqb p.0 a && eqb p.1 b) ≡ true → p ≡ (a, b)
pair_tested p a b e = let both = and_parts (eqb p.0 a) (eqb p.1 b) e in pair_is p a b (eqb-true p.0 a both.0) (eqb-true p.1 b both.1)

pub inside : (k i n size : ℕ) → k < size → n ≤ i → n ≡ size → k < i
inside k i n size within end same = omega (arith, within, end, same)

pub past_end : {X : Type 0} (xs : List X) (k : ℕ) → length xs ≤ k → (x : X) → At xs k x → ⊥
past_end xs k end x at = let within = at_within xs k x at in omega (arith, within, end)
