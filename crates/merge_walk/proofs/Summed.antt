-- Bytes that are counted piece by piece.
use Rattle.std.proofs.Common.{◌≡◌, ℕ, suc, ◌≤◌, Bool, true, List, [], ◌∷◌, set, get_or, cond, refl, ap, ◌∙◌, arith}
use Rattle.std.specs.Prelude.{nat_le, ◌&&◌}
use Rattle.std.specs.List.{AllZip, sum_by, remove}
use Rattle.std.proofs.lemmas.Bool.{le-leb}
use Rattle.std.proofs.lemmas.List.Sums.{sum_by-cons, sum_by-remove, sum_by-set}
use Rattle.mcap_model.specs.Places.{At, Each}
use Rattle.mcap_model.proofs.Places.{at_one, at_within, at_read}
use Rattle.merge_walk.specs.declared.pieces.Piece.{Piece}

module _ {X : Type 0} where
  -- two counts that agree on each element
  pub sums_same : (f g : X → ℕ) (xs : List X) → Each (λ x. f x ≡ g x) xs → sum_by f xs ≡ sum_by g xs
  sums_same f g [] same = refl
  sums_same f g (x ∷ xs) same =
      let one = same 0 x refl in
      let all = sums_same f g xs (λ n y at. same (suc n) y at) in
      omega (arith, one, all, sum_by-cons f x xs, sum_by-cons g x xs)

  pub sum_less : (f : X → ℕ) (xs : List X) (i : ℕ) (x : X) → At xs i x → sum_by f (remove xs i) ≤ sum_by f xs
  sum_less f xs i x at = omega (arith, sum_by-remove f xs i x (at_within xs i x at))

  -- another element that counts the same
  pub sum_set : (f : X → ℕ) (xs : List X) (i : ℕ) (x y : X) → At xs i x → f y ≡ f x → sum_by f (set xs i y) ≡ sum_by f xs
  sum_set f xs i x y at same =
      let within = at_within xs i x at in
      let read : f (get_or xs i x) ≡ f x = ap f (at_one xs i (get_or xs i x) x (at_read xs i x within) at) in
      omega (arith, same, read, sum_by-set f xs i y x within)

pub sums_zipped : {X Y : Type 0} (R : X → Y → Type 0) (f : X → ℕ) (g : Y → ℕ) (xs : List X) (ys : List Y) → ((x : X) (y : Y) → R x y → g y ≡ f x) → AllZip R xs ys → sum_by g ys ≡ sum_by f xs
sums_zipped R f g [] [] same all = refl
sums_zipped R f g [] (y ∷ ys) same all = absurd all
sums_zipped R f g (x ∷ xs) [] same all = absurd all
sums_zipped R f g (x ∷ xs) (y ∷ ys) same all =
    let one = same x y all.0 in
    let rest = sums_zipped R f g xs ys same all.1 in
    omega (arith, one, rest, sum_by-cons f x xs, sum_by-cons g y ys)

-- what a piece adds to the overlap at a time
abbrev pub share_at : ℕ → Piece → ℕ
share_at time p = cond (nat_le p.span.least time && nat_le time p.span.greatest) p.span.length 0

pub share_within : (time : ℕ) (p : Piece) → p.span.least ≤ time → time ≤ p.span.greatest → share_at time p ≡ p.span.length
share_within time p low high =
    ap (λ (b : Bool). cond (b && nat_le time p.span.greatest) p.span.length 0) (le-leb p.span.least time low)
    ∙ ap (λ (b : Bool). cond (true && b) p.span.length 0) (le-leb time p.span.greatest high)
