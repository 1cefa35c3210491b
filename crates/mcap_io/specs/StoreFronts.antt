-- What a source over the front of a store asks of it.
use Rattle.std.specs.Prelude.{◌≡◌, ℕ, ◌+◌, ◌<◌, ◌≤◌}
use Rattle.mcap_io.specs.Outside.{one_more}
use Rattle.mcap_io.specs.Stores.{StoreState}

-- Of the first so many bytes of a store those were read that stand in front of the next one, and the source has failed so often: no
-- byte was asked for twice, and the store has failed once where the source has.
pub record WasRead (old new : StoreState) (next len failures : ℕ) : Type 0 where
  pub bytes : new.bytes ≡ old.bytes
  pub known : new.known ≡ old.known
  pub within : next ≤ len
  pub whole : failures ≡ 0 → (new.faults ≡ old.faults) × (new.asked ≤ old.asked + next)
  pub broken : 0 < failures
      → (old.faults ≤ new.faults) × (new.faults ≡ one_more old.faults) × (new.asked ≤ old.asked + len)
