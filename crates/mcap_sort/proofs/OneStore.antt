-- A list of one store.
use Rattle.std.proofs.Common.{◌≡◌, zero, suc, List, [], ◌∷◌, length, map, set, refl, sym, ap, subst, ◌∙◌, arith}
use Rattle.std.specs.List.{AllZip}
use Rattle.mcap_io.specs.Stores.{StoreState}
use Rattle.mcap_model.specs.Places.{At}
use Rattle.mcap_model.proofs.Places.{at_one, at_none}
use Rattle.mcap_sort.specs.Sorting.{OfOne}

module _ {T : Type 0} (state : T → StoreState) where
  -- the only store was set
  pub of_set : (olds : List T) (x y : T) (holds : StoreState → StoreState → Type 0) → length olds ≡ 1 → At olds 0 x → holds (state x) (state y) → OfOne (map state olds) (map state (set olds 0 y)) holds
  of_set [] x y holds one at is = absurd (at_none 0 x at)
  of_set (z ∷ []) x y holds one at is =
      let same : z ≡ x = at_one (z ∷ []) 0 z x refl at in
      (state x, state y, ap (λ (w : T). state w ∷ []) same, refl, is)
  of_set (z ∷ w ∷ zs) x y holds one at is = absurd (omega (arith, one))

  -- it is there
  pub one_there : (olds : List T) → length olds ≡ 1 → (x : T) × (olds ≡ x ∷ [])
  one_there [] one = absurd (omega (arith, one))
  one_there (x ∷ []) one = (x, refl)
  one_there (x ∷ y ∷ ys) one = absurd (omega (arith, one))

-- what holds of both steps
pub of_both : (olds news : List StoreState) (A B : StoreState → StoreState → Type 0) → OfOne olds news A → ((s t : StoreState) → A s t → B s t) → OfOne olds news B
of_both olds news A B (s, t, one, other, is) more = (s, t, one, other, more s t is)
