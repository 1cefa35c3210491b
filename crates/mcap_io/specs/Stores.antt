-- What is seen of a store.
use Rattle.std.specs.Prelude.{◌≡◌, ℕ, List, Option, Some, IsSome}
use Rattle.mcap_io.specs.Outside.{Told, WorldState}

-- of a store: the bytes that it tells, if it does; the greatest length that it has answered; how often it has failed; and
-- how many bytes it was asked for
pub record StoreState : Type 0 where
  pub bytes : Option (List ℕ)
  pub known : ℕ
  pub faults : ℕ
  pub asked : ℕ

-- ---- stores in worlds

-- a store that nothing was asked of yet
pub record IsUnused (store : StoreState) : Type 0 where
  pub known : store.known ≡ 0
  pub faults : store.faults ≡ 0
  pub asked : store.asked ≡ 0

-- what an opened store tells: the bytes under its name, which is there
abbrev pub TellsStore : WorldState → List ℕ → StoreState → Type 0
TellsStore world name store =
    (told : Told) → world.told ≡ Some told → (store.bytes ≡ told.names name) × IsSome (told.names name)
