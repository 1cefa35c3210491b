-- Lists with one element more.
use Rattle.std.proofs.Common.{◌≡◌, ◌⊎◌, ℕ, zero, suc, ◌+◌, List, [], ◌∷◌, ◌++◌, take, get_or, take-suc, ap, subst, inl, inr, ◌∙◌, arith}
use Rattle.std.specs.List.{AllZip}
use Rattle.std.proofs.lemmas.Option.{same_Some}
use Rattle.mcap_model.specs.Places.{At, Each}
use Rattle.mcap_model.specs.Tops.{Top}
use Rattle.mcap_model.specs.Fields.{ChannelFields, IsChannel}
use Rattle.mcap_model.specs.Rules.{HasChannel}
use Rattle.mcap_model.proofs.Places.{at_none, at_within, at_read, at_one, at_kept, at_more}
use Rattle.mcap_model.proofs.Lists.{each_cons, each_joined}

pub each_last : {X : Type 0} (P : X → Type 0) (xs : List X) (x : X) → Each P xs → P x → Each P (xs ++ x ∷ [])
each_last P xs x each one = each_joined P xs (x ∷ []) each (each_cons P x [] one (λ n y at. absurd (at_none n y at)))

pub take_next : {X : Type 0} (xs : List X) (n : ℕ) (x : X) → At xs n x → take (suc n) xs ≡ take n xs ++ x ∷ []
take_next [] n x at = absurd (at_none n x at)
take_next {X} (y ∷ xs) zero x at = ap (λ (z : X). z ∷ []) (same_Some y x at)
take_next {X} (y ∷ xs) (suc n) x at = ap (λ (l : List X). y ∷ l) (take_next xs n x at)

-- one element more of a list is taken
pub taken_more : {X : Type 0} (xs : List X) (i : ℕ) (x : X) → At xs i x → take (i + 1) xs ≡ take i xs ++ x ∷ []
taken_more {X} xs i x at =
    let within = at_within xs i x at in
    let next : i + 1 ≡ suc i = omega arith in
    ap (λ (n : ℕ). take n xs) next ∙ take-suc xs i x within
    ∙ ap (λ (y : X). take i xs ++ y ∷ []) (at_one xs i (get_or xs i x) x (at_read xs i x within) at)

pub zip_push : {A B : Type 0} (R : A → B → Type 0) (xs : List A) (ys : List B) (x : A) (y : B) → AllZip R xs ys → R x y → AllZip R (xs ++ x ∷ []) (ys ++ y ∷ [])
zip_push R [] [] x y all one = (one, tt)
zip_push R [] (b ∷ ys) x y all one = absurd all
zip_push R (a ∷ xs) [] x y all one = absurd all
zip_push R (a ∷ xs) (b ∷ ys) x y all one = (all.0, zip_push R xs ys x y all.1 one)

-- ---- channels of a list of records

pub channel_kept : (before : List Top) (t : Top) (id : ℕ) → HasChannel before id → HasChannel (before ++ t ∷ []) id
channel_kept before t id has = record { place = has.place; top = has.top; shown = has.shown; at = at_kept before (t ∷ []) has.place has.top has.at; is = has.is }

pub channel_either : (before : List Top) (t : Top) (id : ℕ) → HasChannel (before ++ t ∷ []) id → HasChannel before id ⊎ ((f : ChannelFields) × IsChannel t id f)
channel_either before t id has = elim (at_more before t has.place has.top has.at) [
  | inl old ↦ inl (record { place = has.place; top = has.top; shown = has.shown; at = old; is = has.is })
  | inr (_, same) ↦ inr (has.shown, subst (λ (x : Top). IsChannel x id has.shown) same has.is)
]
