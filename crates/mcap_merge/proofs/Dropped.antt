-- Elements of a list behind its first.
use Rattle.std.proofs.Common.{◌≡◌, ℕ, zero, suc, ◌+◌, List, [], ◌∷◌, drop, subst, arith}
use Rattle.mcap_model.specs.Places.{At}
use Rattle.mcap_model.proofs.Places.{at_none}

pub dropped : {X : Type 0} (xs : List X) (n m k : ℕ) (x : X) → m ≡ n + k → At xs m x → At (drop n xs) k x
dropped {X} xs zero m k x is at = subst (λ (j : ℕ). At xs j x) (omega (arith, is)) at
dropped [] (suc n) m k x is at = absurd (at_none m x at)
dropped (y ∷ ys) (suc n) zero k x is at = absurd (omega (arith, is))
dropped (y ∷ ys) (suc n) (suc m) k x is at = dropped ys n m k x (omega (arith, is)) at

pub undropped : {X : Type 0} (xs : List X) (n m k : ℕ) (x : X) → m ≡ n + k → At (drop n xs) k x → At xs m x
undropped {X} xs zero m k x is at = subst (λ (j : ℕ). At xs j x) (omega (arith, is)) at
undropped [] (suc n) m k x is at = absurd (at_none k x at)
undropped (y ∷ ys) (suc n) zero k x is at = absurd (omega (arith, is))
undropped (y ∷ ys) (suc n) (suc m) k x is at = undropped ys n m k x (omega (arith, is)) at
