-- Where records of one kind stand, and which of them indexes named.
use Rattle.std.specs.Prelude.{◌≡◌, ◌↔◌, ◌<◌, ℕ, List, Option, Some, None, Bool, true, false, AllPairs, length, slice_set}
use Rattle.mcap_model.specs.Places.{At}
use Rattle.mcap_model.specs.Tops.{Top}
use Rattle.mcap_model.specs.Whole.{offset_of}
use Rattle.index_check.specs.declared.spots.Spot.{Spot}
use Rattle.index_check.specs.declared.spots.Naming.{Naming}
use Rattle.index_check.specs.declared.spots.Naming.TheVariants as namings

abbrev pub Ascends : List Spot → Type 0
Ascends spots = AllPairs (λ s r. s.offset < r.offset) spots

-- the one at that place alone has the offset
abbrev pub IsOnlySpot : List Spot → ℕ → ℕ → Type 0
IsOnlySpot spots offset place = (k : ℕ) (s : Spot) → At spots k s → s.offset ≡ offset → k ≡ place

abbrev pub FindsSpot : List Spot → ℕ → Option ℕ → Type 0
FindsSpot spots offset (Some place) =
    (s : Spot) × At spots place s × (s.offset ≡ offset) × IsOnlySpot spots offset place
FindsSpot spots offset None = (k : ℕ) (s : Spot) → At spots k s → s.offset ≡ offset → ⊥

abbrev pub spot : ℕ → Bool → Spot
spot offset named = record { offset = offset; named = named }

abbrev pub NamesSpot : List Spot → List Spot → ℕ → Naming → Type 0
NamesSpot old new offset namings.Absent = ((k : ℕ) (s : Spot) → At old k s → s.offset ≡ offset → ⊥) × (new ≡ old)
NamesSpot old new offset namings.Again =
    ((place : ℕ) × At old place (spot offset true) × IsOnlySpot old offset place) × (new ≡ old)
NamesSpot old new offset (namings.First place) =
    At old place (spot offset false) × IsOnlySpot old offset place × (new ≡ slice_set old place (spot offset true))

-- these are the places of all records of that kind
pub record SpotsOf (Stands : Top → Type 0) (tops : List Top) (spots : List Spot) : Type 0 where
  pub shown : (k : ℕ) (s : Spot) → At spots k s
      → (n : ℕ) × (t : Top) × At tops n t × Stands t × (s.offset ≡ offset_of tops n)
  pub rises : Ascends spots
  pub covers : (n : ℕ) (t : Top) → At tops n t → Stands t
      → (k : ℕ) × (s : Spot) × At spots k s × (s.offset ≡ offset_of tops n)

-- an index in front of that place names the offset
abbrev pub NamedBefore : (Top → ℕ → Type 0) → List Top → ℕ → ℕ → Type 0
NamedBefore Names tops n offset = (i : ℕ) × (u : Top) × (i < n) × At tops i u × Names u offset

-- just those records are named which an index in front of that place names
pub record NamedBy (Names : Top → ℕ → Type 0) (tops : List Top) (n : ℕ) (spots : List Spot) : Type 0 where
  pub named : (k : ℕ) (s : Spot) → At spots k s → (s.named ≡ true) ↔ NamedBefore Names tops n s.offset

-- each record at its place has its note
pub record NotesOf {N : Type 0} (Notes : ℕ → Top → N → Type 0) (tops : List Top) (spots : List Spot) (notes : List N)
    : Type 0 where
  pub paired : length notes ≡ length spots
  pub noted : (k n : ℕ) (s : Spot) (note : N) (t : Top) → At spots k s → At notes k note → At tops n t
      → s.offset ≡ offset_of tops n → Notes n t note

-- the record with the first name has a note that fits
abbrev pub FitsNamed : {N : Type 0} → (N → Type 0) → List N → Naming → Type 0
FitsNamed Fits notes namings.Absent = ⊥
FitsNamed Fits notes namings.Again = ⊥
FitsNamed {N} Fits notes (namings.First place) = (note : N) × At notes place note × Fits note
