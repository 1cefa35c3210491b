-- What a source over the front of a store has left, and what it leaves of the store.
use Rattle.std.specs.Prelude.{◌≡◌, ℕ, ◌≤◌, List, take, drop, Option}
use Rattle.std.specs.Option.{option_map}
use Rattle.mcap_io.specs.Stores.{StoreState}

-- of the first so many bytes, where they are told, those from there on
abbrev pub front_left : Option (List ℕ) → ℕ → ℕ → Option (List ℕ)
front_left told next len = option_map (λ bytes. drop next (take len bytes)) told

-- a store of the same bytes, later
pub record StaysStore (old new : StoreState) : Type 0 where
  pub bytes : new.bytes ≡ old.bytes
  pub known : new.known ≡ old.known
  pub faults : old.faults ≤ new.faults
