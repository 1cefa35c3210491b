-- Lists that go side by side, when one of their elements changes in both.
use Rattle.std.proofs.Common.{ℕ, zero, suc, List, [], ◌∷◌, set, subst}
use Rattle.std.specs.List.{AllZip, remove}
use Rattle.std.proofs.lemmas.Option.{same_Some}
use Rattle.mcap_model.specs.Places.{At}
use Rattle.mcap_model.proofs.Places.{at_none}

module _ {X Y : Type 0} (R : X → Y → Type 0) where
  pub zip_to : (S : X → Y → Type 0) → ((x : X) (y : Y) → R x y → S x y) → (xs : List X) (ys : List Y) → AllZip R xs ys → AllZip S xs ys
  zip_to S on [] [] all = tt
  zip_to S on [] (y ∷ ys) all = absurd all
  zip_to S on (x ∷ xs) [] all = absurd all
  zip_to S on (x ∷ xs) (y ∷ ys) all = (on x y all.0, zip_to S on xs ys all.1)

  pub zip_removed : (xs : List X) (ys : List Y) (i : ℕ) → AllZip R xs ys → AllZip R (remove xs i) (remove ys i)
  zip_removed [] [] zero all = tt
  zip_removed [] [] (suc i) all = tt
  zip_removed [] (y ∷ ys) i all = absurd all
  zip_removed (x ∷ xs) [] i all = absurd all
  zip_removed (x ∷ xs) (y ∷ ys) zero all = all.1
  zip_removed (x ∷ xs) (y ∷ ys) (suc i) all = (all.0, zip_removed xs ys i all.1)

  -- another element stands in place of one
  pub zip_set : (xs : List X) (ys : List Y) (i : ℕ) (x z : X) → At xs i x → ((y : Y) → R x y → R z y) → AllZip R xs ys → AllZip R (set xs i z) ys
  zip_set [] ys i x z at on all = absurd (at_none i x at)
  zip_set (w ∷ xs) [] i x z at on all = absurd all
  zip_set (w ∷ xs) (y ∷ ys) zero x z at on all = (on y (subst (λ (v : X). R v y) (same_Some w x at) all.0), all.1)
  zip_set (w ∷ xs) (y ∷ ys) (suc i) x z at on all = (all.0, zip_set xs ys i x z at on all.1)
