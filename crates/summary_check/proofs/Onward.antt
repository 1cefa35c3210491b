-- Records that were cut, one after the other.
use Rattle.std.proofs.Common.{◌≡◌, ℕ, suc, ◌+◌, ◌<◌, ◌≤◌, List, [], ◌∷◌, length, refl, ap, subst, inl, inr, arith}
use Rattle.std.proofs.lemmas.Bool.{cases_lt}
use Rattle.mcap_wire.specs.declared.faults.Cut.{Cut}
use Rattle.mcap_model.specs.Places.{At}
use Rattle.mcap_model.specs.Tops.{Top}
use Rattle.mcap_model.specs.Plain.{cut_top}
use Rattle.mcap_model.proofs.Flat.{at_mapped}
use Rattle.mcap_model.proofs.Places.{at_within, at_one}
use Rattle.summary_read.specs.PartSteps.{cut_tops}

pub length-tops : (bytes : List ℕ) (cuts : List Cut) → length (cut_tops bytes cuts) ≡ length cuts
length-tops bytes [] = refl
length-tops bytes (c ∷ cs) = ap suc (length-tops bytes cs)

-- a place among the records is one among the cuts
pub tops_within : (bytes : List ℕ) (cuts : List Cut) (k : ℕ) (t : Top) → At (cut_tops bytes cuts) k t → k < length cuts
tops_within bytes cuts k t at = let within = at_within (cut_tops bytes cuts) k t at in omega (arith, within, length-tops bytes cuts)

-- so many are all
pub tops_end : (bytes : List ℕ) (cuts : List Cut) (i : ℕ) → length cuts ≤ i → i ≤ length cuts → i ≡ length (cut_tops bytes cuts)
tops_end bytes cuts i past within = omega (arith, past, within, length-tops bytes cuts)

pub op_there : (bytes : List ℕ) (cuts : List Cut) (i : ℕ) (c : Cut) → At cuts i c → (t : Top) × At (cut_tops bytes cuts) i t × (t.op ≡ c.op)
op_there bytes cuts i c at = (cut_top bytes c, at_mapped (cut_top bytes) cuts i c at, refl)

-- what holds of the elements in front of a place, and of the one there
pub onward : {X : Type 0} (P : ℕ → X → Type 0) (xs : List X) (i : ℕ) (x : X) → ((k : ℕ) (y : X) → At xs k y → k < i → P k y) → At xs i x → P i x → (k : ℕ) (y : X) → At xs k y → k < i + 1 → P k y
onward {X} P xs i x front at holds k y there less = elim (cases_lt k i) [
  | inl before ↦ front k y there before
  | inr past ↦
      let same : i ≡ k = omega (arith, past, less) in
      subst (λ (n : ℕ). P n y) same (subst (P i) (at_one xs i x y at (subst (λ (n : ℕ). At xs n y) (let back : k ≡ i = omega (arith, same) in back) there)) holds)
]
