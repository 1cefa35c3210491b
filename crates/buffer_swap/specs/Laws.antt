-- What it says that publishers know a history.
use Rattle.std.specs.Prelude.{◌≡◌, ℕ, ◌<◌, List, length}
use Rattle.rec_data.specs.declared.owned.Rec.{Rec}
use Rattle.mcap_model.specs.Places.{At, Has}
use Rattle.buffer_swap.specs.Posts.{Gathered}
use Rattle.buffer_swap.specs.Plays.{WeighAlike}

-- each place of a history is that of one pair of one publisher
pub record PlacesKnown (known : List Gathered) (taken : List Rec) : Type 0 where
  pub given : (place : ℕ) → place < length taken
      → (k : ℕ) × (p : Gathered) × (pair : ℕ × Rec) × At known k p × Has p.pass.own pair × (pair.0 ≡ place)
  pub one_pass : (j k : ℕ) (p q : Gathered) (one other : ℕ × Rec) → At known j p → At known k q → Has p.pass.own one
      → Has q.pass.own other → one.0 ≡ other.0 → j ≡ k
  pub one_pair : (k m n : ℕ) (p : Gathered) (one other : ℕ × Rec) → At known k p → At p.pass.own m one
      → At p.pass.own n other → one.0 ≡ other.0 → m ≡ n

-- so it is where their pairs weigh what the places of its records weigh
abbrev pub PlacesAreKnown : Type 0
PlacesAreKnown = (known : List Gathered) (taken : List Rec) → WeighAlike known taken → PlacesKnown known taken
