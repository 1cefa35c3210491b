-- What the extent of times says of them.
use Rattle.std.proofs.Common.{◌≡◌, ℕ, zero, suc, ◌≤◌, true, List, [], ◌∷◌, ◌++◌, length, refl, sym, ap, subst, inl, inr, append_assoc, append-nil, Some, None, arith}
use Rattle.std.specs.Prelude.{AllPairs, ◌&&◌, nat_le, min, max, fold}
use Rattle.std.proofs.lemmas.Bool.{and_from, and_parts, leb-true, le-leb}
use Rattle.std.proofs.lemmas.Bool.Decides.{leb_tells}
use Rattle.std.proofs.lemmas.Option.{same_Some}
use Rattle.std.proofs.Math.Nat.{min-le_left, min-le_right, min-eq_left, min-eq_right, le-max_left, le-max_right, max-eq_left, max-eq_right}
use Rattle.mcap_model.specs.Places.{At, Has, Each}
use Rattle.mcap_model.proofs.Places.{at_none, at_kept, at_last, at_more, pairs_more}
use Rattle.mcap_model.proofs.Lists.{pairs_at, pairs_from}
use Rattle.merge_walk.specs.declared.times.Extent.{Extent}
use Rattle.merge_walk.specs.Times.{with_time, extent_of}
use Rattle.merge_walk.specs.Surveys.{TimesSpan}

-- what is known of the times so far
pub record ExtentStands (times : List ℕ) (e : Extent) : Type 0 where
  pub are : TimesSpan times e.least e.greatest e.in_order
  pub last_there : (n : ℕ) × (length times ≡ suc n) × At times n e.last
  pub last_is : e.in_order ≡ true → e.last ≡ e.greatest

there : (xs : List ℕ) (y x : ℕ) → Has xs x → Has (xs ++ y ∷ []) x
there xs y x has = (has.0, at_kept xs (y ∷ []) has.0 x has.1)

new_there : (xs : List ℕ) (y : ℕ) → Has (xs ++ y ∷ []) y
new_there xs y = (length xs, at_last xs y [])

least_there : (times : List ℕ) (least time : ℕ) → Has times least → Has (times ++ time ∷ []) (min least time)
least_there times least time has = elim (leb_tells least time) [
  | inl is ↦ subst (Has (times ++ time ∷ [])) (sym (min-eq_left is.1)) (there times time least has)
  | inr is ↦ subst (Has (times ++ time ∷ [])) (sym (min-eq_right {n = time} {m = least} (let lt = is.1 in omega (arith, lt)))) (new_there times time)
]

greatest_there : (times : List ℕ) (greatest time : ℕ) → Has times greatest → Has (times ++ time ∷ []) (max greatest time)
greatest_there times greatest time has = elim (leb_tells greatest time) [
  | inl is ↦ subst (Has (times ++ time ∷ [])) (sym (max-eq_right is.1)) (new_there times time)
  | inr is ↦ subst (Has (times ++ time ∷ [])) (sym (max-eq_left {n = greatest} {m = time} (let lt = is.1 in omega (arith, lt)))) (there times time greatest has)
]

within_more : (times : List ℕ) (least greatest time : ℕ) → Each (λ t. (least ≤ t) × (t ≤ greatest)) times → Each (λ t. (min least time ≤ t) × (t ≤ max greatest time)) (times ++ time ∷ [])
within_more times least greatest time within n t at = elim (at_more times time n t at) [
  | inl old ↦
      let (low, high) = within n t old in
      let below = min-le_left least time in
      let above = le-max_left greatest time in
      (omega (arith, low, below), omega (arith, high, above))
  | inr new ↦
      let same = new.1 in
      let below = min-le_right least time in
      let above = le-max_right greatest time in
      (omega (arith, same, below), omega (arith, same, above))
]

-- one time more
pub stands_more : (times : List ℕ) (e : Extent) (time : ℕ) → ExtentStands times e
    → ExtentStands (times ++ time ∷ []) (record { least = min e.least time; greatest = max e.greatest time; last = time; in_order = e.in_order && nat_le e.last time })
stands_more times e time was =
    let are = was.are in
    let within = are.within in
    record {
      are = record {
        least_there = least_there times e.least time are.least_there;
        greatest_there = greatest_there times e.greatest time are.greatest_there;
        within = within_more times e.least e.greatest time within;
        rise = λ order.
            let (one, two) = and_parts e.in_order (nat_le e.last time) order in
            let behind : e.last ≤ time = leb-true e.last time two in
            let last = was.last_is one in
            pairs_more (λ (t : ℕ) (u : ℕ). t ≤ u) times time (are.rise one) (λ k t at. let high = (within k t at).1 in omega (arith, high, last, behind));
        fall = λ rises.
            let (n, size, at) = was.last_there in
            let front : AllPairs (λ (t : ℕ) (u : ℕ). t ≤ u) times = pairs_from (λ (t : ℕ) (u : ℕ). t ≤ u) times (λ i j t u less at_t at_u.
            pairs_at (λ (x : ℕ) (y : ℕ). x ≤ y) (times ++ time ∷ []) rises i j t u less (at_kept times (time ∷ []) i t at_t) (at_kept times (time ∷ []) j u at_u)) in
            let behind : e.last ≤ time = pairs_at (λ (x : ℕ) (y : ℕ). x ≤ y) (times ++ time ∷ []) rises n (length times) e.last time (omega (arith, size)) (at_kept times (time ∷ []) n e.last at) (at_last times time []) in
            and_from e.in_order (nat_le e.last time) (are.fall front) (le-leb e.last time behind);
      };
      last_there = (length times, size_more times time, at_last times time []);
      last_is = λ order.
          let (one, two) = and_parts e.in_order (nat_le e.last time) order in
          let behind : e.last ≤ time = leb-true e.last time two in
          let last = was.last_is one in
          sym (max-eq_right {n = e.greatest} {m = time} (omega (arith, last, behind)));
    }
  where
    size_more : (xs : List ℕ) (y : ℕ) → length (xs ++ y ∷ []) ≡ suc (length xs)
    size_more [] y = refl
    size_more (x ∷ xs) y = ap suc (size_more xs y)

-- all that follow
stands_on : (front : List ℕ) (e : Extent) (times : List ℕ) (last : Extent) → ExtentStands front e → fold with_time (Some e) times ≡ Some last → ExtentStands (front ++ times) last
stands_on front e [] last was is = subst (ExtentStands (front ++ [])) (same_Some e last is) (subst (λ (l : List ℕ). ExtentStands l e) (sym (append-nil front)) was)
stands_on front e (t ∷ ts) last was is =
    subst (λ (l : List ℕ). ExtentStands l last) (append_assoc front (t ∷ []) ts)
    (stands_on (front ++ t ∷ []) (record { least = min e.least t; greatest = max e.greatest t; last = t; in_order = e.in_order && nat_le e.last t }) ts last (stands_more front e t was) is)

stands_one : (t : ℕ) → ExtentStands (t ∷ []) (record { least = t; greatest = t; last = t; in_order = true })
stands_one t = record {
  are = record {
    least_there = (0, refl);
    greatest_there = (0, refl);
    within = λ n x at. let same = only n x at in (omega (arith, same), omega (arith, same));
    rise = λ order. pairs_from (λ (x : ℕ) (y : ℕ). x ≤ y) (t ∷ []) (λ i j x y less at_x at_y.
        let one = only i x at_x in
        let other = only j y at_y in
        omega (arith, one, other));
    fall = λ rises. refl;
  };
  last_there = (0, refl, refl);
  last_is = λ order. refl;
}
  where
    only : (n : ℕ) (x : ℕ) → At (t ∷ []) n x → x ≡ t
    only zero x at = sym (same_Some t x at)
    only (suc n) x at = absurd (at_none n x at)

-- the extent of some times
pub extent_is : (times : List ℕ) (e : Extent) → extent_of times ≡ Some e → TimesSpan times e.least e.greatest e.in_order
extent_is [] e is = absurd (none_some e is)
  where
    none_some : (x : Extent) → None ≡ Some x → ⊥
    none_some x same = cc
extent_is (t ∷ ts) e is = let stands = stands_on (t ∷ []) (record { least = t; greatest = t; last = t; in_order = true }) ts e (stands_one t) is in stands.are
