-- Parts of a store that are read behind other bytes.
use Rattle.std.specs.Prelude.{◌≡◌, ℕ, ◌+◌, ◌≤◌, List, ◌++◌, length, take, drop, Option, Some, Result, Ok, Err}
use Rattle.mcap_io.specs.declared.outside.OutsideRefused.{OutsideRefused}
use Rattle.mcap_io.specs.OutsideCalls.{ReadCause}
use Rattle.mcap_io.specs.Stores.{StoreState}

-- so many bytes are added behind others; where the store tells, they are those that stand there
pub record IsAdded (told : Option (List ℕ)) (at len : ℕ) (before now : List ℕ) : Type 0 where
  pub part : List ℕ
  pub added : now ≡ before ++ part
  pub size : length part ≡ len
  pub told_is : (file : List ℕ) → told ≡ Some file → part ≡ take len (drop at file)

abbrev pub PartIs : Option (List ℕ) → ℕ → ℕ → List ℕ → List ℕ → Result Unit OutsideRefused → Type 0
PartIs told at len before now (Ok it) = IsAdded told at len before now
PartIs told at len before now (Err why) = Unit {0}

-- what a reading of so many bytes does to a store
pub record ReadsFrom (old new : StoreState) (len : ℕ) (result : Result Unit OutsideRefused) : Type 0 where
  pub bytes : new.bytes ≡ old.bytes
  pub known : new.known ≡ old.known
  pub asked : new.asked ≤ old.asked + len
  pub cause : ReadCause old.faults new.faults result
