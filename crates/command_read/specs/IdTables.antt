-- Tables by the ids of channels: where one stands first, and how many messages it has.
use Rattle.std.specs.Prelude.{◌≡◌, ℕ, ◌<◌, List, slice_get, suc, length}
use Rattle.command_read.specs.Counts.{told_count}
use Rattle.mcap_model.specs.Places.{At, Has, Each}

-- the counts by their ids: none, where the map is empty
abbrev pub IsCountTable : List (ℕ × ℕ) → List ℕ → Type 0
IsCountTable counts table = (id : ℕ) → id < 65536 → slice_get table id ≡ told_count counts id

-- an id stands at that place, and at none before it
pub record StandsFirst (ids : List ℕ) (id place : ℕ) : Type 0 where
  pub at : At ids place id
  pub first : (n : ℕ) → n < place → At ids n id → ⊥

-- For each id one more than the place where it stands first, or 0 where it stands nowhere.
pub record IsPlaceTable (ids table : List ℕ) : Type 0 where
  pub within : (n id : ℕ) → At ids n id → id < length table
  pub none : (id : ℕ) → At table id 0 → (n : ℕ) → At ids n id → ⊥
  pub some : (id place : ℕ) → At table id (suc place) → StandsFirst ids id place

-- the places where the ids stand first, in the order of the ids
pub record ArePlaces (ids places : List ℕ) : Type 0 where
  pub are : Each (λ p. (id : ℕ) × StandsFirst ids id p) places
  pub rises : (j k p q id other : ℕ) → j < k → At places j p → At places k q → At ids p id → At ids q other → id < other
  pub all : (n id : ℕ) → At ids n id → (place : ℕ) × Has places place × At ids place id
