-- A list put in the order of a relation, one element after the other.
use Rattle.std.proofs.Common.{◌≡◌, ◌⊎◌, zero, suc, List, [], ◌∷◌, refl, sym, subst, inl, inr, arith}
use Rattle.std.specs.Prelude.{AllPairs}
use Rattle.mcap_model.specs.Places.{At, Has, Each}
use Rattle.mcap_model.proofs.Places.{at_none, at_one}
use Rattle.mcap_model.proofs.Lists.{pairs_at, pairs_from, pairs_cons}
use Rattle.mcap_model.proofs.PlacesApart.{none_pairs}

-- the same elements, each before those behind it
pub record InOrder {X : Type 0} (Before : X → X → Type 0) (xs ys : List X) : Type 0 where
  pub rise : AllPairs Before ys
  pub are : (y : X) → Has ys y → Has xs y
  pub all : (x : X) → Has xs x → Has ys x

module _ {X : Type 0} (Before : X → X → Type 0) (Known : X → Type 0) (next : (x y z : X) → Before x y → Before y z → Before x z) (either : (x y : X) → Known x → Known y → (x ≡ y) ⊎ (Before x y ⊎ Before y x)) where
  pairs_behind : (x : X) (xs : List X) → AllPairs Before (x ∷ xs) → AllPairs Before xs
  pairs_behind x xs rise = pairs_from Before xs (λ i j a b less at_a at_b. pairs_at Before (x ∷ xs) rise (suc i) (suc j) a b (omega (arith, less)) at_a at_b)

  has_behind : (x : X) (xs : List X) (y : X) → Has xs y → Has (x ∷ xs) y
  has_behind x xs y (n, at) = (suc n, at)

  has_first : (x : X) (xs : List X) (y : X) → Has (x ∷ xs) y → (x ≡ y) ⊎ Has xs y
  has_first x xs y (zero, at) = inl (at_one (x ∷ xs) zero x y refl at)
  has_first x xs y (suc n, at) = inr (n, at)

  before_all : (x y : X) (ys : List X) → Before x y → AllPairs Before (y ∷ ys) → Each (Before x) (y ∷ ys)
  before_all x y ys first rise zero z at = subst (Before x) (at_one (y ∷ ys) zero y z refl at) first
  before_all x y ys first rise (suc n) z at = next x y z first (pairs_at Before (y ∷ ys) rise zero (suc n) y z (omega arith) refl at)

  insert : (x : X) (ys : List X) → Known x → Each Known ys → AllPairs Before ys → (zs : List X) × InOrder Before (x ∷ ys) zs
  insert x [] known each rise = (x ∷ [], record { rise = pairs_cons Before x [] (λ n z at. absurd (at_none n z at)) (none_pairs Before); are = λ z has. has; all = λ z has. has })
  insert x (y ∷ ys) known each rise = elim (either x y known (each zero y refl)) [
    | inl same ↦ (
      y ∷ ys,
      record {
        rise = rise;
        are = λ z has. has_behind x (y ∷ ys) z has;
        all = λ z has. elim (has_first x (y ∷ ys) z has) [
          | inl here ↦ (zero, subst (λ (w : X). At (y ∷ ys) zero w) here (subst (λ (w : X). At (y ∷ ys) zero w) (sym same) refl))
          | inr later ↦ later
        ];
      },
    )
    | inr (inl first) ↦ (x ∷ y ∷ ys, record { rise = pairs_cons Before x (y ∷ ys) (before_all x y ys first rise) rise; are = λ z has. has; all = λ z has. has })
    | inr (inr last) ↦
        let (zs, is) = insert x ys known (λ n z at. each (suc n) z at) (pairs_behind y ys rise) in
        let are = is.are in
        let all = is.all in (
          y ∷ zs,
          record {
            rise = pairs_cons Before y zs (λ n z at. elim (has_first x ys z (are z (n, at))) [
              | inl here ↦ subst (Before y) here last
              | inr later ↦ pairs_at Before (y ∷ ys) rise zero (suc later.0) y z (omega arith) refl later.1
            ]) is.rise;
            are = λ z has. elim (has_first y zs z has) [
              | inl here ↦ (suc zero, subst (λ (w : X). At (x ∷ y ∷ ys) (suc zero) w) here refl)
              | inr later ↦ elim (has_first x ys z (are z later)) [
                | inl mine ↦ (zero, subst (λ (w : X). At (x ∷ y ∷ ys) zero w) mine refl)
                | inr old ↦ (suc (suc old.0), old.1)
              ]
            ];
            all = λ z has. elim (has_first x (y ∷ ys) z has) [
              | inl mine ↦ has_behind y zs z (all z (zero, subst (λ (w : X). At (x ∷ ys) zero w) mine refl))
              | inr rest ↦ elim (has_first y ys z rest) [
                | inl here ↦ (zero, subst (λ (w : X). At (y ∷ zs) zero w) here refl)
                | inr old ↦ has_behind y zs z (all z (has_behind x ys z old))
              ]
            ];
          },
        )
  ]

  pub in_order : (xs : List X) → Each Known xs → (ys : List X) × InOrder Before xs ys
  in_order [] each = ([], record { rise = none_pairs Before; are = λ z has. has; all = λ z has. has })
  in_order (x ∷ xs) each =
      let (ys, is) = in_order xs (λ n z at. each (suc n) z at) in
      let are = is.are in
      let all = is.all in
      let (zs, now) = insert x ys (each zero x refl) (λ n z at. let old = are z (n, at) in each (suc old.0) z old.1) is.rise in
      let new = now.are in
      let kept = now.all in (
        zs,
        record {
          rise = now.rise;
          are = λ z has. elim (has_first x ys z (new z has)) [
            | inl mine ↦ (zero, subst (λ (w : X). At (x ∷ xs) zero w) mine refl)
            | inr old ↦ has_behind x xs z (are z old)
          ];
          all = λ z has. elim (has_first x xs z has) [
            | inl mine ↦ kept z (zero, subst (λ (w : X). At (x ∷ ys) zero w) mine refl)
            | inr old ↦ kept z (has_behind x ys z (all z old))
          ];
        },
      )
