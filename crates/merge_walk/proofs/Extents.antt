-- The extent of times, one after the other.
use Rattle.std.proofs.Common.{◌≡◌, ℕ, Bool, true, false, cond, List, [], ◌∷◌, ◌++◌, map, ap, refl, ◌∙◌, None}
use Rattle.std.specs.Prelude.{filter}
use Rattle.std.proofs.lemmas.List.{map-append}
use Rattle.std.proofs.lemmas.List.Elements.{filter-append}
use Rattle.std.proofs.lemmas.List.Sums.{fold-append}
use Rattle.mcap_model.specs.Tops.{Top}
use Rattle.mcap_scan.specs.HeadTimes.{time_in, is_headed}
use Rattle.merge_walk.specs.Times.{times_of, with_time, extent_of}

pub extent_more : (times : List ℕ) (time : ℕ) → extent_of (times ++ time ∷ []) ≡ with_time (extent_of times) time
extent_more times time = fold-append with_time None times (time ∷ [])

pub times_joined : (xs ys : List Top) → times_of (xs ++ ys) ≡ times_of xs ++ times_of ys
times_joined xs ys = ap (map (λ (u : Top). time_in u.content)) (filter-append is_headed xs ys) ∙ map-append (λ (u : Top). time_in u.content) (filter is_headed xs) (filter is_headed ys)

-- a test that is known, for one record
pub times_one : (t : Top) (b : Bool) → is_headed t ≡ b → times_of (t ∷ []) ≡ cond b (time_in t.content ∷ []) []
times_one t b is = ap (λ (c : Bool). map (λ (u : Top). time_in u.content) (cond c (t ∷ []) [])) is ∙ by b
  where
    by : (c : Bool) → map (λ (u : Top). time_in u.content) (cond c (t ∷ []) []) ≡ cond c (time_in t.content ∷ []) []
    by true = refl
    by false = refl
