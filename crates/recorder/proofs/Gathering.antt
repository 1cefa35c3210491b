-- Lists that grow at their end, as a loop goes over what it takes out of a vector.
use Rattle.std.proofs.Common.{◌≡◌, List, [], ◌∷◌, ◌++◌, length, map, refl, sym, ap, ◌∙◌, append_assoc, arith}
use Rattle.mcap_model.specs.Places.{Each}
use Rattle.mcap_model.proofs.Places.{at_none}
use Rattle.mcap_model.proofs.Lists.{each_cons, each_joined}

map_push : {X Y : Type 0} (f : X → Y) (xs : List X) (x : X) → map f (xs ++ x ∷ []) ≡ map f xs ++ f x ∷ []
map_push f [] x = refl
map_push f (y ∷ ys) x = ap (λ (l : List _). f y ∷ l) (map_push f ys x)

-- one more behind what was taken so far
pub mapped_on : {X Y : Type 0} (f : X → Y) (all now before : List Y) (xs : List X) (x : X) → all ≡ now ++ f x ∷ [] → now ≡ before ++ map f xs → all ≡ before ++ map f (xs ++ x ∷ [])
mapped_on f all now before xs x more was =
    more ∙ ap (λ (l : List _). l ++ f x ∷ []) was ∙ append_assoc before (map f xs) (f x ∷ []) ∙ ap (λ (l : List _). before ++ l) (sym (map_push f xs x))

pub each_push : {X : Type 0} (P : X → Type 0) (xs : List X) (x : X) → Each P xs → P x → Each P (xs ++ x ∷ [])
each_push P xs x was is = each_joined P xs (x ∷ []) was (each_cons P x [] is (λ n y at. absurd (at_none n y at)))

pub nothing_left : {X : Type 0} (l : List X) → length l ≡ 0 → l ≡ []
nothing_left [] h = refl
nothing_left (x ∷ xs) h = absurd (omega arith)
