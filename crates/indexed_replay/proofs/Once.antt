-- Messages that are the same nowhere.
use Rattle.std.proofs.Common.{◌≡◌, ◌⊎◌, ℕ, ◌+◌, ◌<◌, List, [], ◌∷◌, ◌++◌, length, subst, inl, inr, arith}
use Rattle.std.specs.Prelude.{◌≢◌, AllPairs}
use Rattle.mcap_model.specs.declared.replay.Shown.{Shown}
use Rattle.mcap_model.specs.Places.{At, Has}
use Rattle.mcap_model.proofs.Places.{at_none, at_within}
use Rattle.mcap_model.proofs.Lists.{at_either, pairs_at, pairs_from}

abbrev pub Differ : Shown → Shown → Type 0
Differ s r = s ≢ r

pub once_none : AllPairs Differ []
once_none = pairs_from Differ [] (λ i j a b less at_a at_b. absurd (at_none i a at_a))

pub once_alone : (s : Shown) → AllPairs Differ (s ∷ [])
once_alone s = pairs_from Differ (s ∷ []) (λ i j a b less at_a at_b. let within : j < 1 = at_within (s ∷ []) j b at_b in absurd (omega (arith, less, within)))

pub once_joined : (P Q : Shown → Type 0) (xs ys : List Shown) → ((s : Shown) → Has xs s → P s) → ((s : Shown) → Has ys s → Q s) → AllPairs Differ xs → AllPairs Differ ys → ((s : Shown) → P s → Q s → ⊥) → AllPairs Differ (xs ++ ys)
once_joined P Q xs ys first second one other apart = pairs_from Differ (xs ++ ys) (λ i j a b less at_a at_b. by i j a b less (at_either xs ys i a at_a) (at_either xs ys j b at_b))
  where
    by : (i j : ℕ) (a b : Shown) → i < j → At xs i a ⊎ ((k : ℕ) × (i ≡ length xs + k) × At ys k a) → At xs j b ⊎ ((k : ℕ) × (j ≡ length xs + k) × At ys k b) → Differ a b
    by i j a b less (inl here) (inl there) = pairs_at Differ xs one i j a b less here there
    by i j a b less (inl here) (inr (k, is, there)) = λ same. apart b (first b (i, subst (λ (s : Shown). At xs i s) same here)) (second b (k, there))
    by i j a b less (inr (m, is, here)) (inl there) = absurd (omega (arith, less, is, at_within xs j b there))
    by i j a b less (inr (m, is, here)) (inr (k, be, there)) = pairs_at Differ ys other m k a b (omega (arith, less, is, be)) here there
