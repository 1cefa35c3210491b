-- What the calls on a store do to what is seen of it.
use Rattle.std.specs.Prelude.{◌≡◌, ℕ, ◌+◌, ◌-◌, ◌^◌, ◌≤◌, min, max, List, length, take, drop, Option, Some, None, Result, Ok, Err, IsErrOf, Vec, vec_len}
use Rattle.mcap_io.specs.declared.outside.Failed.{Failed}
use Rattle.mcap_io.specs.declared.outside.OutsideRefused.{OutsideRefused}
use Rattle.mcap_io.specs.declared.outside.OutsideRefused.TheVariants as outside_refusals
use Rattle.mcap_io.specs.declared.outside.ObjectKind.TheVariants as kinds
use Rattle.mcap_io.specs.OutsideCalls.{HasCause, ReadCause, Notes, went_well}
use Rattle.mcap_io.specs.Outside.{Told, WorldState}
use Rattle.mcap_io.specs.Stores.{StoreState}

-- so many bytes more; a count at the end of its type stands there
abbrev pub asked_more : ℕ → ℕ → ℕ
asked_more asked n = min (asked + n) (2 ^ 128 - 1)

-- the length that is known after a question for it
abbrev pub known_after : ℕ → Result ℕ Failed → ℕ
known_after known (Ok n) = max known n
known_after known (Err why) = known

-- where the store tells, the length is that of its bytes
abbrev pub TellsLength : Option (List ℕ) → Result ℕ Failed → Type 0
TellsLength told (Ok n) = (bytes : List ℕ) → told ≡ Some bytes → n ≡ length bytes
TellsLength told (Err why) = Unit {0}

-- what a reading leaves of a store: its bytes, and a length that is known at least as well
pub record LeavesStore (old new : StoreState) : Type 0 where
  pub bytes : new.bytes ≡ old.bytes
  pub known : old.known ≤ new.known

-- the bytes and the length that the store tells stay
pub record StoreStays (old new : StoreState) : Type 0 where
  pub bytes : new.bytes ≡ old.bytes
  pub known : new.known ≡ old.known

-- a question for the length
pub record Measures (old new : StoreState) (result : Result ℕ Failed) : Type 0 where
  pub tells : TellsLength old.bytes result
  pub bytes : new.bytes ≡ old.bytes
  pub known : new.known ≡ known_after old.known result
  pub asked : new.asked ≡ old.asked
  pub cause : HasCause old.faults new.faults result

-- where the store tells, these are its bytes from there on
abbrev pub GivesPart : Option (List ℕ) → ℕ → List ℕ → Result Unit Failed → Type 0
GivesPart told at out (Ok it) = (bytes : List ℕ) → told ≡ Some bytes → out ≡ take (length out) (drop at bytes)
GivesPart told at out (Err why) = Unit {0}

-- a read fills the slice with the bytes at that place; the bytes count as asked for where it fails too
pub record ReadsPart (old new : StoreState) (at : ℕ) (out : List ℕ) (result : Result Unit Failed) : Type 0 where
  pub gives : GivesPart old.bytes at out result
  pub bytes : new.bytes ≡ old.bytes
  pub known : new.known ≡ old.known
  pub asked : new.asked ≡ asked_more old.asked (length out)
  pub cause : HasCause old.faults new.faults result

-- where the store tells, so many bytes are those that stand there
abbrev pub IsPart : {Y : Type 0} → Option (List ℕ) → ℕ → ℕ → Result (Vec ℕ Y) OutsideRefused → Type 0
IsPart told at len (Ok part) =
    (vec_len part ≡ len) × ((bytes : List ℕ) → told ≡ Some bytes → part.items ≡ take len (drop at bytes))
IsPart told at len (Err why) = Unit {0}

-- so many bytes are read to a vector of their own; where memory lacks, none is asked for
pub record TakesPart {Y : Type 0} (old new : StoreState) (at len : ℕ) (result : Result (Vec ℕ Y) OutsideRefused)
    : Type 0 where
  pub gives : IsPart old.bytes at len result
  pub bytes : new.bytes ≡ old.bytes
  pub known : new.known ≡ old.known
  pub asked : new.asked ≤ old.asked + len
  pub none : IsErrOf result outside_refusals.Memory → new.asked ≡ old.asked
  pub cause : ReadCause old.faults new.faults result

-- where the world tells, it goes on telling: a store that is taken back is noted, and the names hold what they held
abbrev pub KeepsStore : WorldState → WorldState → List ℕ → StoreState → Result Unit Failed → Type 0
KeepsStore old new name it result = (told : Told) → old.told ≡ Some told
    → (now : Told) × (new.told ≡ Some now) × (now.names ≡ told.names)
    × Notes told.log now.log kinds.Store name (record
    { well = went_well result; faults = it.faults; left = None; asked = it.asked })
