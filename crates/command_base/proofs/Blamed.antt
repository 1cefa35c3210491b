-- Which names are blamed, as a list.
use Rattle.std.proofs.Common.{◌≡◌, ◌⊎◌, ℕ, zero, suc, Bool, true, false, List, [], ◌∷◌, ◌++◌, refl, subst, inl, inr}
use Rattle.mcap_model.specs.Places.{At, Each}
use Rattle.mcap_model.proofs.Places.{at_none}
use Rattle.command_base.specs.Ran.{named_when}

same_name : (a b : List ℕ) → At (a ∷ []) 0 b → a ≡ b
same_name a b at = cc

-- what holds of each of two names, if it is blamed
pub each_two : (P : List ℕ → Type 0) (f o : Bool) (feed out : List ℕ) → (f ≡ true → P feed) → (o ≡ true → P out) → Each P (named_when f feed ++ (named_when o out ++ []))
each_two P true true feed out first second zero x at = subst P (same_name feed x at) (first refl)
each_two P true true feed out first second (suc zero) x at = subst P (same_name out x at) (second refl)
each_two P true true feed out first second (suc (suc n)) x at = absurd (at_none n x at)
each_two P true false feed out first second zero x at = subst P (same_name feed x at) (first refl)
each_two P true false feed out first second (suc n) x at = absurd (at_none n x at)
each_two P false true feed out first second zero x at = subst P (same_name out x at) (second refl)
each_two P false true feed out first second (suc n) x at = absurd (at_none n x at)
each_two P false false feed out first second n x at = absurd (at_none n x at)

pub each_one : (P : List ℕ → Type 0) (f : Bool) (feed : List ℕ) → (f ≡ true → P feed) → Each P (named_when f feed ++ [])
each_one P true feed first zero x at = subst P (same_name feed x at) (first refl)
each_one P true feed first (suc n) x at = absurd (at_none n x at)
each_one P false feed first n x at = absurd (at_none n x at)

-- one of two names is blamed, so there is a name
pub some_two : (f o : Bool) (feed out : List ℕ) → (f ≡ true) ⊎ (o ≡ true) → named_when f feed ++ (named_when o out ++ []) ≡ [] → ⊥
some_two true o feed out some none = absurd cc
some_two false true feed out some none = absurd cc
some_two false false feed out (inl is) none = absurd cc
some_two false false feed out (inr is) none = absurd cc

pub some_one : (f : Bool) (feed : List ℕ) → f ≡ true → named_when f feed ++ [] ≡ [] → ⊥
some_one true feed some none = absurd cc
some_one false feed some none = absurd cc
