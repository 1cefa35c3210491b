-- A table's places.
use Rattle.std.specs.Prelude.{◌≡◌, ℕ, suc, List}
use Rattle.mcap_model.specs.Places.{At}
use Rattle.mcap_model.specs.declared.table.Declared.{Declared}

-- for each id the place of its declaration and one, or 0
pub record ArePlacesOf (places : List ℕ) (first : List Declared) : Type 0 where
  pub shown : (k : ℕ) (d : Declared) → At first k d → At places d.id (suc k)
  pub names : (id k : ℕ) → At places id (suc k) → (d : Declared) × At first k d × (d.id ≡ id)
