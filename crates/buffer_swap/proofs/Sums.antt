-- Sums over lists that change at one place.
use Rattle.std.proofs.Common.{◌≡◌, ℕ, zero, suc, ◌+◌, ◌≤◌, ◌≢◌, List, [], ◌∷◌, ◌++◌, length, set, sym, refl, ap, arith}
use mathlib.Core.Option.{some, some-injective, some-ne-none}
use lib.ListN.{get_elem?}
use Rattle.buffer_swap.specs.Weights.{total, below}

module _ {A : Type 0} where
  module _ (g : A → ℕ) where
    pub total-append : (l m : List A) → total g (l ++ m) ≡ total g l + total g m
    total-append [] m = omega arith
    total-append (x ∷ xs) m = omega (arith, total-append xs m)

    pub total-set : (l : List A) (j : ℕ) (v w : A) → get_elem? l j ≡ some v → total g (set l j w) + g v ≡ total g l + g w
    total-set [] j v w e = absurd (some-ne-none v (sym e))
    total-set (x ∷ xs) zero v w e = omega (arith, ap g (some-injective x v e))
    total-set (x ∷ xs) (suc j) v w e = omega (arith, total-set xs j v w e)

    pub term_le : (l : List A) (j : ℕ) (v : A) → get_elem? l j ≡ some v → g v ≤ total g l
    term_le [] j v e = absurd (some-ne-none v (sym e))
    term_le (x ∷ xs) zero v e = omega (arith, ap g (some-injective x v e))
    term_le (x ∷ xs) (suc j) v e = omega (arith, term_le xs j v e)

    pub terms_le : (l : List A) (j k : ℕ) (v u : A) → k ≢ j → get_elem? l j ≡ some v → get_elem? l k ≡ some u → g v + g u ≤ total g l
    terms_le [] j k v u n e d = absurd (some-ne-none v (sym e))
    terms_le (x ∷ xs) zero zero v u n e d = absurd (n refl)
    terms_le (x ∷ xs) zero (suc k) v u n e d = omega (arith, ap g (some-injective x v e), term_le xs k u d)
    terms_le (x ∷ xs) (suc j) zero v u n e d = omega (arith, ap g (some-injective x u d), term_le xs j v e)
    terms_le (x ∷ xs) (suc j) (suc k) v u n e d = omega (arith, terms_le xs j k v u (λ h. n (ap suc h)) e d)

module _ {A : Type 0} where
  pub set_at : (l : List A) (i : ℕ) (a w : A) → get_elem? l i ≡ some a → get_elem? (set l i w) i ≡ some w
  set_at [] i a w e = absurd (some-ne-none a (sym e))
  set_at (x ∷ xs) zero a w e = refl
  set_at (x ∷ xs) (suc i) a w e = set_at xs i a w e

  -- where the others weigh nothing
  pub total-alone : (g f : A → ℕ) (l : List A) (j : ℕ) (v : A) → get_elem? l j ≡ some v → total g l ≡ g v → ((i : ℕ) (u : A) → get_elem? l i ≡ some u → g u ≡ 0 → f u ≡ 0) → total f l ≡ f v
  total-alone g f [] j v e all none-there = absurd (some-ne-none v (sym e))
  total-alone g f (x ∷ xs) zero v e all none-there = let same = some-injective x v e in omega (arith, ap g same, ap f same, total-none xs (omega (arith, ap g same)) (λ i u at. none-there (suc i) u at))
    where
      total-none : (l : List A) → total g l ≡ 0 → ((i : ℕ) (u : A) → get_elem? l i ≡ some u → g u ≡ 0 → f u ≡ 0) → total f l ≡ 0
      total-none [] z h = refl
      total-none (y ∷ ys) z h = omega (arith, h 0 y refl (omega arith), total-none ys (omega arith) (λ i u at. h (suc i) u at))
  total-alone g f (x ∷ xs) (suc j) v e all none-there = omega (arith, none-there 0 x refl (omega (arith, term_le g xs j v e)), total-alone g f xs j v e (omega (arith, term_le g xs j v e)) (λ i u at. none-there (suc i) u at))

-- each member counts once
abbrev pub one : {A : Type 0} → A → ℕ
one x = 1

pub total-ones : {A : Type 0} (l : List A) → total one l ≡ length l
total-ones [] = refl
total-ones (x ∷ xs) = omega (arith, total-ones xs)

pub below-ones : (n : ℕ) → total one (below n) ≡ n
below-ones zero = refl
below-ones (suc n) = omega (arith, below-ones n)

pub below-more : (h : ℕ → ℕ) (n : ℕ) → total h (below (n + 1)) ≡ h n + total h (below n)
below-more h n = let next : n + 1 ≡ suc n = omega arith in ap (λ (k : ℕ). total h (below k)) next
