-- The marks of some ids.
use Rattle.std.specs.Prelude.{◌≡◌, ◌⊎◌, ◌↔◌, ℕ, List, [], ◌∷◌, ◌++◌, Bool, true}
use Rattle.mcap_model.specs.Places.{At, Has}

-- just these ids are marked
pub record AreMarked (marks : List Bool) (ids : List ℕ) : Type 0 where
  pub marked : (id : ℕ) → At marks id true ↔ Has ids id

-- an id was there, or it is added
abbrev pub AddsOnce : List ℕ → ℕ → List ℕ → Type 0
AddsOnce old id new = (Has old id × (new ≡ old)) ⊎ ((Has old id → ⊥) × (new ≡ old ++ id ∷ []))
