-- Places of declarations in a table that grows.
use Rattle.std.proofs.Common.{◌≡◌, ℕ, zero, suc, ◌-◌, ◌<◌, ◌≤◌, List, [], ◌∷◌, ◌++◌, length, get_or, set, sym, ap, subst, inl, inr, arith}
use Rattle.std.specs.Prelude.{replicate}
use Rattle.mcap_model.specs.Places.{At}
use Rattle.mcap_model.proofs.Places.{at_within, at_none, at_one, at_read, at_kept, at_last, at_more, at_set, at_set_same, at_set_other}
use Rattle.mcap_model.specs.declared.table.Declared.{Declared}
use Rattle.mcap_model.specs.Indexed.{ArePlacesOf}
use Rattle.std.proofs.lemmas.Option.{same_Some}

-- zeros name nothing
zeros_none : (n k m : ℕ) → At (replicate n 0) k (suc m) → ⊥
zeros_none zero k m at = at_none k (suc m) at
zeros_none (suc n) zero m at = let same = same_Some 0 (suc m) at in omega (arith, same)
zeros_none (suc n) (suc k) m at = zeros_none n k m at

pub behind_zeros : (places : List ℕ) (n k m : ℕ) → At (places ++ replicate n 0) k (suc m) → At places k (suc m)
behind_zeros [] n k m at = absurd (zeros_none n k m at)
behind_zeros (p ∷ ps) n zero m at = at
behind_zeros (p ∷ ps) n (suc k) m at = behind_zeros ps n k m at

pub grown : (places more : List ℕ) (first : List Declared) → ArePlacesOf places first → ((k m : ℕ) → At places k (suc m) → At more k (suc m)) → ((k m : ℕ) → At more k (suc m) → At places k (suc m)) → ArePlacesOf more first
grown places more first is kept none = record {
  shown = λ k d at. kept d.id k (is.shown k d at);
  names = λ id k at. is.names id k (none id k at);
}

pub added : (places : List ℕ) (first : List Declared) (d : Declared) → ArePlacesOf places first → d.id < length places → ((k : ℕ) (e : Declared) → At first k e → e.id ≡ d.id → ⊥) → ArePlacesOf (set places d.id (suc (length first))) (first ++ d ∷ [])
added places first d is within new = record {
  shown = λ k e at. elim (at_more first d k e at) [
    | inl old ↦ at_set_other places d.id e.id (suc k) (suc (length first)) (λ same. new k e old same) (is.shown k e old)
    | inr last ↦
        let place : suc (length first) ≡ suc k = ap suc (sym last.0) in
        subst (λ (x : ℕ). At (set places d.id (suc (length first))) e.id x) place
        (subst (λ (x : Declared). At (set places d.id (suc (length first))) x.id (suc (length first))) (sym last.1) (at_set_same places d.id (suc (length first)) within))
  ];
  names = λ id k at. elim (at_set places d.id id (suc k) (suc (length first)) at) [
    | inl here ↦
        let place : length first ≡ k = let e = here.1 in omega (arith, e) in
        (d, subst (λ (x : ℕ). At (first ++ d ∷ []) x d) place (at_last first d []), sym here.0)
    | inr there ↦ let old = is.names id k there.1 in (old.0, at_kept first (d ∷ []) k old.0 old.1, old.2)
  ];
}

-- ---- what is found

pub place_past : (places : List ℕ) (first : List Declared) (id k : ℕ) (d : Declared) → ArePlacesOf places first → At first k d → d.id ≡ id → length places ≤ id → ⊥
place_past places first id k d is at same past =
    let within = at_within places d.id (suc k) (is.shown k d at) in omega (arith, within, same, past)

pub place_zero : (places : List ℕ) (first : List Declared) (id k : ℕ) (d : Declared) → ArePlacesOf places first → At first k d → d.id ≡ id → At places id 0 → ⊥
place_zero places first id k d is at same none =
    let there : At places id (suc k) = subst (λ (i : ℕ). At places i (suc k)) same (is.shown k d at) in
    let clash = at_one places id 0 (suc k) none there in omega (arith, clash)

pub place_named : (places : List ℕ) (first : List Declared) (id p : ℕ) → ArePlacesOf places first → At places id p → (p ≡ 0 → ⊥) → (d : Declared) × At first (p - 1) d × (d.id ≡ id)
place_named places first id p is at some =
    let more : p ≡ suc (p - 1) = omega (arith, some) in
    is.names id (p - 1) (subst (λ (x : ℕ). At places id x) more at)

-- the place that was read
pub place_read : (places : List ℕ) (id p : ℕ) → id < length places → p ≡ get_or places id p → At places id p
place_read places id p within read = subst (λ (x : ℕ). At places id x) (sym read) (at_read places id p within)

-- an id stands at one place
pub one_place : (places : List ℕ) (first : List Declared) (j k : ℕ) (d e : Declared) → ArePlacesOf places first → At first j d → At first k e → d.id ≡ e.id → j ≡ k
one_place places first j k d e is at other same =
    let one = at_one places e.id (suc j) (suc k) (subst (λ (n : ℕ). At places n (suc j)) same (is.shown j d at)) (is.shown k e other) in
    omega (arith, one)
