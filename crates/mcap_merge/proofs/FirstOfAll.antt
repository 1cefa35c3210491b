-- The first elements of a list whose elements rise.
use Rattle.std.proofs.Common.{◌≡◌, ◌⊎◌, zero, suc, List, [], ◌∷◌, ◌++◌, refl, sym, ap, subst, inl, inr, ◌∙◌, arith}
use Rattle.std.specs.Prelude.{AllPairs}
use Rattle.mcap_model.specs.Places.{Has, Each}
use Rattle.mcap_model.proofs.Places.{at_none, at_one}
use Rattle.mcap_model.proofs.Lists.{pairs_at, pairs_from}

-- elements that rise, and come before all others of a list, are its first
module _ {X : Type 0} (Before : X → X → Type 0) (apart : (x y : X) → Before x y → Before y x → ⊥) where
  behind : (x : X) (xs : List X) → AllPairs Before (x ∷ xs) → AllPairs Before xs
  behind x xs rise = pairs_from Before xs (λ i j y z less at_y at_z. pairs_at Before (x ∷ xs) rise (suc i) (suc j) y z (omega (arith, less)) at_y at_z)

  first_is : (f : X) (fs : List X) (x : X) (xs : List X) → AllPairs Before (f ∷ fs) → AllPairs Before (x ∷ xs) → Has (x ∷ xs) f → Has (f ∷ fs) x ⊎ Each (λ g. Before g x) (f ∷ fs) → f ≡ x
  first_is f fs x xs rise all (zero, at) place = sym (at_one (x ∷ xs) zero x f refl at)
  first_is f fs x xs rise all (suc n, at) (inl (zero, here)) = at_one (f ∷ fs) zero f x refl here
  first_is f fs x xs rise all (suc n, at) (inl (suc k, here)) =
      absurd (apart f x (pairs_at Before (f ∷ fs) rise zero (suc k) f x (omega arith) refl here) (pairs_at Before (x ∷ xs) all zero (suc n) x f (omega arith) refl at))
  first_is f fs x xs rise all (suc n, at) (inr before) = absurd (apart f x (before zero f refl) (pairs_at Before (x ∷ xs) all zero (suc n) x f (omega arith) refl at))

  -- what stands behind the first isn't it
  not_first : (x : X) (xs : List X) (y : X) → AllPairs Before (x ∷ xs) → Has xs y → x ≡ y → ⊥
  not_first x xs y all has same =
      let before = pairs_at Before (x ∷ xs) all zero (suc has.0) x y (omega arith) refl has.1 in
      let mine : Before y y = subst (λ (z : X). Before z y) same before in
      apart y y mine mine

  there_behind : (f : X) (fs : List X) (x : X) (xs : List X) (g : X) → f ≡ x → AllPairs Before (f ∷ fs) → Has fs g → Has (x ∷ xs) g → Has xs g
  there_behind f fs x xs g same rise has (zero, at) = absurd (not_first f fs g rise has (same ∙ at_one (x ∷ xs) zero x g refl at))
  there_behind f fs x xs g same rise has (suc n, at) = (n, at)

  place_behind : (f : X) (fs : List X) (x : X) (xs : List X) (y : X) → f ≡ x → AllPairs Before (x ∷ xs) → Has xs y → Has (f ∷ fs) y ⊎ Each (λ g. Before g y) (f ∷ fs) → Has fs y ⊎ Each (λ g. Before g y) fs
  place_behind f fs x xs y same all has (inl (zero, at)) = absurd (not_first x xs y all has (sym same ∙ at_one (f ∷ fs) zero f y refl at))
  place_behind f fs x xs y same all has (inl (suc n, at)) = inl (n, at)
  place_behind f fs x xs y same all has (inr before) = inr (λ n g at. before (suc n) g at)

  pub first_of_all : (fs xs : List X) → AllPairs Before fs → AllPairs Before xs → ((f : X) → Has fs f → Has xs f) → ((x : X) → Has xs x → Has fs x ⊎ Each (λ f. Before f x) fs) → (more : List X) × (xs ≡ fs ++ more)
  first_of_all [] xs rise all are place = (xs, refl)
  first_of_all (f ∷ fs) [] rise all are place = let none = are f (0, refl) in absurd (at_none none.0 f none.1)
  first_of_all (f ∷ fs) (x ∷ xs) rise all are place =
      let same = first_is f fs x xs rise all (are f (0, refl)) (place x (0, refl)) in
      let (more, rest) = first_of_all fs xs (behind f fs rise) (behind x xs all)
      (λ g has. there_behind f fs x xs g same rise has (are g (suc has.0, has.1)))
      (λ y has. place_behind f fs x xs y same all has (place y (suc has.0, has.1))) in
      (more, ap (λ (l : List X). x ∷ l) rest ∙ ap (λ (y : X). y ∷ (fs ++ more)) (sym same))
