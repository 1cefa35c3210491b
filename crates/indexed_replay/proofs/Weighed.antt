-- Sums over places that differ.
use Rattle.std.proofs.Common.{◌≡◌, ℕ, zero, suc, ◌+◌, ◌≤◌, List, [], ◌∷◌, ◌++◌, Some, refl, ap, arith}
use Rattle.std.specs.Prelude.{◌≢◌, sum_by}
use Rattle.std.proofs.lemmas.List.Sums.{sum_by-cons}
use Rattle.std.proofs.lemmas.Option.{same_Some}
use Rattle.mcap_model.specs.Places.{At, Has, Each}
use Rattle.mcap_model.proofs.Places.{at_none}
use Rattle.mcap_model.proofs.Lists.{each_joined}

-- no number stands twice
abbrev pub AreApart : List ℕ → Type 0
AreApart [] = Unit {0}
AreApart (p ∷ ps) = Each (λ q. p ≢ q) ps × AreApart ps

pub apart_joined : (ps qs : List ℕ) → AreApart ps → AreApart qs → ((p q : ℕ) → Has ps p → Has qs q → p ≢ q) → AreApart (ps ++ qs)
apart_joined [] qs one other cross = other
apart_joined (p ∷ ps) qs one other cross = (
  each_joined (λ q. p ≢ q) ps qs one.0 (λ n q at. cross p q (0, refl) (n, at)),
  apart_joined ps qs one.1 other (λ a b has. cross a b (suc has.0, has.1)),
)

-- the numbers but 0, each less by one
down : List ℕ → List ℕ
down [] = []
down (zero ∷ ps) = down ps
down (suc p ∷ ps) = p ∷ down ps

down_has : (ps : List ℕ) (k q : ℕ) → At (down ps) k q → Has ps (suc q)
unfolding down
down_has [] k q at = absurd (at_none k q at)
down_has (zero ∷ ps) k q at = let more = down_has ps k q at in (suc more.0, more.1)
down_has (suc p ∷ ps) zero q at = (0, ap (λ (n : ℕ). Some (suc n)) (same_Some p q at))
down_has (suc p ∷ ps) (suc k) q at = let more = down_has ps k q at in (suc more.0, more.1)

down_apart : (ps : List ℕ) → AreApart ps → AreApart (down ps)
unfolding down
down_apart [] apart = tt
down_apart (zero ∷ ps) apart = down_apart ps apart.1
down_apart (suc p ∷ ps) apart = (λ k q at same. let has = down_has ps k q at in apart.0 has.0 (suc q) has.1 (ap suc same), down_apart ps apart.1)

module _ {Y : Type 0} (v : Y → ℕ) where
  -- what stands at that place weighs so much
  abbrev pub weight_at : List Y → ℕ → ℕ
  weight_at [] p = 0
  weight_at (y ∷ ys) zero = v y
  weight_at (y ∷ ys) (suc p) = weight_at ys p

  pub weight_is : (ys : List Y) (p : ℕ) (y : Y) → At ys p y → weight_at ys p ≡ v y
  weight_is [] p y at = absurd (at_none p y at)
  weight_is (x ∷ ys) zero y at = ap v (same_Some x y at)
  weight_is (x ∷ ys) (suc p) y at = weight_is ys p y at

  none_weighs : (ps : List ℕ) → sum_by (weight_at []) ps ≡ 0
  none_weighs [] = refl
  none_weighs (p ∷ ps) = omega (arith, sum_by-cons (weight_at []) p ps, none_weighs ps)

  no_zero : (y : Y) (ys : List Y) (ps : List ℕ) → Each (λ q. 0 ≢ q) ps → sum_by (weight_at (y ∷ ys)) ps ≡ sum_by (weight_at ys) (down ps)
  unfolding down
  no_zero y ys [] each = refl
  no_zero y ys (zero ∷ ps) each = absurd (each 0 0 refl refl)
  no_zero y ys (suc p ∷ ps) each =
      let more = no_zero y ys ps (λ n q at. each (suc n) q at) in
      omega (arith, more, sum_by-cons (weight_at (y ∷ ys)) (suc p) ps, sum_by-cons (weight_at ys) p (down ps))

  one_zero : (y : Y) (ys : List Y) (ps : List ℕ) → AreApart ps → sum_by (weight_at (y ∷ ys)) ps ≤ v y + sum_by (weight_at ys) (down ps)
  unfolding down
  one_zero y ys [] apart = omega arith
  one_zero y ys (zero ∷ ps) apart = omega (arith, no_zero y ys ps apart.0, sum_by-cons (weight_at (y ∷ ys)) 0 ps)
  one_zero y ys (suc p ∷ ps) apart = omega (arith, one_zero y ys ps apart.1, sum_by-cons (weight_at (y ∷ ys)) (suc p) ps, sum_by-cons (weight_at ys) p (down ps))

  -- the weights at some places are at most those of all
  pub weights_fit : (ys : List Y) (ps : List ℕ) → AreApart ps → sum_by (weight_at ys) ps ≤ sum_by v ys
  weights_fit [] ps apart = omega (arith, none_weighs ps)
  weights_fit (y ∷ ys) ps apart = omega (arith, one_zero y ys ps apart, weights_fit ys (down ps) (down_apart ps apart), sum_by-cons v y ys)
