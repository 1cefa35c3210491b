-- Walking a list from its end.
use Rattle.std.proofs.Common.{◌≡◌, ℕ, suc, ◌<◌, List, ◌∷◌, ◌++◌, length, get_or, take, drop, ap, sym, ◌∙◌}
use Rattle.std.proofs.Math.Seq.{drop-cons}
use Rattle.std.proofs.lemmas.List.{take-append-drop}

-- the elements before a place, its own, and those behind it
pub split_there : {X : Type 0} (xs : List X) (at : ℕ) (d : X) → at < length xs → xs ≡ take at xs ++ get_or xs at d ∷ drop (suc at) xs
split_there xs at d within = sym (take-append-drop at xs) ∙ ap (λ l. take at xs ++ l) (drop-cons xs at d within)
