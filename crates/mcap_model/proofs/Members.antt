-- Members of joined lists.
use Rattle.std.proofs.Common.{◌≡◌, ◌⊎◌, zero, suc, ◌+◌, List, [], ◌∷◌, ◌++◌, length, sym, inl, inr}
use Rattle.std.proofs.lemmas.Option.{same_Some}
use Rattle.mcap_model.specs.Places.{Has}
use Rattle.mcap_model.proofs.Places.{at_none}
use Rattle.mcap_model.proofs.Lists.{at_either, at_second}

pub has_either : {X : Type 0} (xs ys : List X) (x : X) → Has (xs ++ ys) x → Has xs x ⊎ Has ys x
has_either xs ys x has = elim (at_either xs ys has.0 x has.1) [
  | inl at ↦ inl (has.0, at)
  | inr (k, is, at) ↦ inr (k, at)
]

pub has_second : {X : Type 0} (xs ys : List X) (x : X) → Has ys x → Has (xs ++ ys) x
has_second xs ys x has = (length xs + has.0, at_second xs ys has.0 x has.1)

pub has_one : {X : Type 0} (x y : X) → Has (x ∷ []) y → y ≡ x
has_one x y (zero, at) = same_Some y x (sym at)
has_one x y (suc n, at) = absurd (at_none n y at)
