-- What is loaded, and what loading asks of a store.
use Rattle.std.specs.Prelude.{◌≡◌, ℕ, ◌+◌, ◌≤◌, List, ◌∷◌, [], ◌++◌, length, take, drop, Option, Some, None, Result, Ok, Err}
use Rattle.std.specs.List.{sum_by, remove}
use Rattle.mcap_io.specs.Outside.{RisesOnce}
use Rattle.mcap_io.specs.Stores.{StoreState}
use Rattle.mcap_model.specs.Places.{At, Has}
use Rattle.mcap_model.specs.declared.refusals.ReadingRefused.{ReadingRefused}
use Rattle.mcap_model.specs.declared.refusals.ReadingRefused.TheVariants as refusals
use Rattle.merge_walk.specs.declared.parts.Loadable.{Loadable}
use Rattle.merge_walk.specs.declared.window.Loaded.{Loaded}

abbrev pub loaded_part : ℕ → ℕ → List ℕ → Loaded
loaded_part input offset bytes = record { input = input; offset = offset; bytes = bytes }

-- how many bytes parts have
abbrev pub bytes_in : List Loaded → ℕ
bytes_in loaded = sum_by (λ l. length l.bytes) loaded

-- a part is that of the input which begins at the offset
abbrev pub IsPartAt : ℕ → ℕ → Loaded → Type 0
IsPartAt input offset l = (l.input ≡ input) × (l.offset ≡ offset)

-- that part is loaded
abbrev pub IsPartLoaded : List Loaded → ℕ → ℕ → Type 0
IsPartLoaded loaded input offset = (l : Loaded) × Has loaded l × IsPartAt input offset l

-- the first place at which it stands, or it isn't loaded
abbrev pub FindsLoaded : List Loaded → ℕ → ℕ → Option ℕ → Type 0
FindsLoaded loaded input offset (Some i) = (l : Loaded) × At loaded i l × IsPartAt input offset l
FindsLoaded loaded input offset None = IsPartLoaded loaded input offset → ⊥

-- these bytes are as many as were asked for; where the store tells, they stand in it there
pub record IsOf (told : Option (List ℕ)) (at : Loadable) (bytes : List ℕ) : Type 0 where
  pub size : length bytes ≡ at.length
  pub told_is : (file : List ℕ) → told ≡ Some file → bytes ≡ take at.length (drop at.offset file)

-- one part more is loaded; or all stays as it was
abbrev pub LoadsPart : Option (List ℕ) → Loadable → List Loaded → List Loaded → Result Unit ReadingRefused → Type 0
LoadsPart told at old new (Ok it) =
    (bytes : List ℕ) × IsOf told at bytes × (new ≡ old ++ loaded_part at.input at.offset bytes ∷ [])
LoadsPart told at old new (Err why) = new ≡ old

-- that part isn't loaded any more, and the others are
abbrev pub Releases : ℕ → ℕ → List Loaded → List Loaded → Type 0
Releases input offset old new = (i : ℕ) × (l : Loaded) × At old i l × IsPartAt input offset l × (new ≡ remove old i)

-- a fault comes where the count rises by one, and carries it; else the count stands still. Only faults and a want of memory are
-- refused: the part isn't looked into.
abbrev pub PartCause : ℕ → ℕ → Result Unit ReadingRefused → Type 0
PartCause before now (Ok it) = now ≡ before
PartCause before now (Err (refusals.Fault faults)) = RisesOnce before now × (faults ≡ now)
PartCause before now (Err (refusals.Grammar offset rule)) = ⊥
PartCause before now (Err (refusals.Compressed offset name)) = ⊥
PartCause before now (Err (refusals.Limit offset)) = ⊥
PartCause before now (Err refusals.Memory) = now ≡ before

-- what loading so many bytes leaves of a store
pub record LoadsFrom (old new : StoreState) (len : ℕ) (result : Result Unit ReadingRefused) : Type 0 where
  pub bytes : new.bytes ≡ old.bytes
  pub known : new.known ≡ old.known
  pub asked : new.asked ≤ old.asked + len
  pub cause : PartCause old.faults new.faults result

-- a room holds the part
abbrev pub RoomHolds : Option (List ℕ) → Loadable → List ℕ → Result Unit ReadingRefused → Type 0
RoomHolds told at room (Ok it) = IsOf told at room
RoomHolds told at room (Err why) = Unit {0}

pub record FillsRoom (old new : StoreState) (at : Loadable) (room : List ℕ) (result : Result Unit ReadingRefused)
    : Type 0 where
  pub holds : RoomHolds old.bytes at room result
  pub reads : LoadsFrom old new at.length result
