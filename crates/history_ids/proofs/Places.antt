-- Places in lists of contents, and in longer ones.
use Rattle.std.proofs.Common.{◌≡◌, ℕ, zero, suc, ◌+◌, Bool, true, false, List, [], ◌∷◌, ◌++◌, length, Option, Some, None, refl, sym, ap, ◌∙◌, arith}
use Rattle.std.specs.Prelude.{position, cond, map}
use Rattle.std.specs.List.{position_from}
use Rattle.std.proofs.lemmas.Iterator.Adapters.{position_from-zero}
use Rattle.mcap_model.specs.Places.{At, Each}
use Rattle.mcap_model.proofs.Places.{at_none}
use Rattle.std.proofs.lemmas.Option.{same_Some}

-- ---- a list of values

module _ {X Y : Type 0} (f : X → Y) where
  pub at_map : (xs : List X) (n : ℕ) (x : X) → At xs n x → At (map f xs) n (f x)
  at_map [] n x at = absurd (at_none n x at)
  at_map (z ∷ xs) zero x at = ap (λ (y : X). Some (f y)) (same_Some z x at)
  at_map (z ∷ xs) (suc n) x at = at_map xs n x at

  pub map_at : (xs : List X) (n : ℕ) (y : Y) → At (map f xs) n y → (x : X) × At xs n x × (f x ≡ y)
  map_at [] n y at = absurd (at_none n y at)
  map_at (z ∷ xs) zero y at = (z, refl, same_Some (f z) y at)
  map_at (z ∷ xs) (suc n) y at = map_at xs n y at

  pub map_same : (g : X → Y) (xs : List X) → Each (λ x. f x ≡ g x) xs → map f xs ≡ map g xs
  map_same g [] each = refl
  map_same g (x ∷ xs) each =
      let first : f x ≡ g x = each 0 x refl in
      let rest : map f xs ≡ map g xs = map_same g xs (λ n y at. each (suc n) y at) in
      ap (λ (y : Y). y ∷ map f xs) first ∙ ap (λ (l : List Y). g x ∷ l) rest

-- ---- what is found in a longer list

module _ {X : Type 0} (p : X → Bool) where
  none_some : (k : ℕ) → None ≡ Some k → ⊥
  none_some k e = cc

  more_by : (b : Bool) (i k : ℕ) (one other : Option ℕ) → cond b (Some i) one ≡ Some k → (one ≡ Some k → other ≡ Some k) → cond b (Some i) other ≡ Some k
  more_by true i k one other e more = e
  more_by false i k one other e more = more e

  from_more : (xs ys : List X) (i k : ℕ) → position_from p i xs ≡ Some k → position_from p i (xs ++ ys) ≡ Some k
  from_more [] ys i k e = absurd (none_some k e)
  from_more (x ∷ xs) ys i k e = more_by (p x) i k (position_from p (i + 1) xs) (position_from p (i + 1) (xs ++ ys)) e (from_more xs ys (i + 1) k)

  last_by : (b : Bool) (i k : ℕ) (one other : Option ℕ) → cond b (Some i) one ≡ None → (one ≡ None → other ≡ Some k) → cond b (Some i) other ≡ Some k
  last_by true i k one other e more = absurd (none_some i (sym e))
  last_by false i k one other e more = more e

  from_last : (xs : List X) (y : X) (i : ℕ) → p y ≡ true → position_from p i xs ≡ None → position_from p i (xs ++ y ∷ []) ≡ Some (i + length xs)
  from_last [] y i passes e =
      let same : i ≡ i + 0 = omega arith in
      ap (λ (b : Bool). cond b (Some i) None) passes ∙ ap {B = Option ℕ} Some same
  from_last (x ∷ xs) y i passes e =
      let same : i + 1 + length xs ≡ i + length (x ∷ xs) = omega arith in
      last_by (p x) i (i + length (x ∷ xs)) (position_from p (i + 1) xs) (position_from p (i + 1) (xs ++ y ∷ [])) e
      (λ none. from_last xs y (i + 1) passes none ∙ ap {B = Option ℕ} Some same)

  pub found_more : (xs ys : List X) (k : ℕ) → position p xs ≡ Some k → position p (xs ++ ys) ≡ Some k
  found_more xs ys k e = position_from-zero p (xs ++ ys) ∙ from_more xs ys 0 k (sym (position_from-zero p xs) ∙ e)

  pub found_last : (xs : List X) (y : X) → p y ≡ true → position p xs ≡ None → position p (xs ++ y ∷ []) ≡ Some (length xs)
  found_last xs y passes e =
      let same : 0 + length xs ≡ length xs = omega arith in
      position_from-zero p (xs ++ y ∷ []) ∙ from_last xs y 0 passes (sym (position_from-zero p xs) ∙ e) ∙ ap {B = Option ℕ} Some same
