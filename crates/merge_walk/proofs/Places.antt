-- Places in lists that are cut, or have an element less or another.
use Rattle.std.proofs.Common.{◌≡◌, ◌⊎◌, ℕ, zero, suc, ◌+◌, ◌<◌, ◌≤◌, List, [], ◌∷◌, length, drop, map, get_or, refl, sym, ap, subst, inl, inr, arith}
use Rattle.std.specs.List.{remove}
use Rattle.std.proofs.lemmas.Option.{same_Some}
use Rattle.mcap_model.specs.Places.{At}
use Rattle.mcap_model.proofs.Places.{at_none, at_read}

pub dropped : {X : Type 0} (xs : List X) (n m k : ℕ) (x : X) → m ≡ n + k → At xs m x → At (drop n xs) k x
dropped {X} xs zero m k x is at = subst (λ (j : ℕ). At xs j x) (omega (arith, is)) at
dropped [] (suc n) m k x is at = absurd (at_none m x at)
dropped (y ∷ ys) (suc n) zero k x is at = absurd (omega (arith, is))
dropped (y ∷ ys) (suc n) (suc m) k x is at = dropped ys n m k x (omega (arith, is)) at

pub undropped : {X : Type 0} (xs : List X) (n m k : ℕ) (x : X) → m ≡ n + k → At (drop n xs) k x → At xs m x
undropped {X} xs zero m k x is at = subst (λ (j : ℕ). At xs j x) (omega (arith, is)) at
undropped [] (suc n) m k x is at = absurd (at_none k x at)
undropped (y ∷ ys) (suc n) zero k x is at = absurd (omega (arith, is))
undropped (y ∷ ys) (suc n) (suc m) k x is at = undropped ys n m k x (omega (arith, is)) at

pub drop_head : {X : Type 0} (xs : List X) (n : ℕ) (x : X) → At xs n x → drop n xs ≡ x ∷ drop (suc n) xs
drop_head [] n x at = absurd (at_none n x at)
drop_head {X} (y ∷ ys) zero x at = ap (λ (z : X). z ∷ ys) (same_Some y x at)
drop_head (y ∷ ys) (suc n) x at = drop_head ys n x at

pub map_removed : {X Y : Type 0} (f : X → Y) (xs : List X) (i : ℕ) → map f (remove xs i) ≡ remove (map f xs) i
map_removed f [] zero = refl
map_removed f [] (suc i) = refl
map_removed f (y ∷ ys) zero = refl
map_removed {X} {Y} f (y ∷ ys) (suc i) = ap (λ (l : List Y). f y ∷ l) (map_removed f ys i)

-- where an element stood before another was taken out
abbrev pub StoodAt : ℕ → ℕ → ℕ → Type 0
StoodAt i n m = ((n < i) × (m ≡ n)) ⊎ ((i ≤ n) × (m ≡ suc n))

pub removed_from : {X : Type 0} (xs : List X) (i n : ℕ) (x : X) → At (remove xs i) n x → (m : ℕ) × At xs m x × StoodAt i n m
removed_from {X} [] i n x at = absurd (none i at)
  where
    none : (k : ℕ) → At (remove [] k) n x → ⊥
    none zero there = at_none n x there
    none (suc k) there = at_none n x there
removed_from (y ∷ ys) zero n x at = (suc n, at, inr (omega arith, refl))
removed_from (y ∷ ys) (suc i) zero x at = (0, at, inl (omega arith, refl))
removed_from (y ∷ ys) (suc i) (suc n) x at =
    let (m, there, stood) = removed_from ys i n x at in
    (suc m, there, moved m stood)
  where
    moved : (m : ℕ) → StoodAt i n m → StoodAt (suc i) (suc n) (suc m)
    moved m (inl below) = inl (let a = below.0 in let b = below.1 in (omega (arith, a), omega (arith, b)))
    moved m (inr above) = inr (let a = above.0 in let b = above.1 in (omega (arith, a), omega (arith, b)))

pub stood_apart : (i n k m l : ℕ) → StoodAt i n m → StoodAt i k l → m ≡ l → n ≡ k
stood_apart i n k m l (inl one) (inl other) same = omega (arith, one.1, other.1, same)
stood_apart i n k m l (inl one) (inr other) same = omega (arith, one.0, one.1, other.0, other.1, same)
stood_apart i n k m l (inr one) (inl other) same = omega (arith, one.0, one.1, other.0, other.1, same)
stood_apart i n k m l (inr one) (inr other) same = omega (arith, one.1, other.1, same)

-- an element that was read
pub read_there : {X : Type 0} (xs : List X) (n : ℕ) (x : X) → x ≡ get_or xs n x → n < length xs → At xs n x
read_there xs n x is less = subst (At xs n) (sym is) (at_read xs n x less)
