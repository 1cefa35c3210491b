-- The entries that a borrowed array or map of counts stands for.
use Rattle.std.specs.Prelude.{◌≡◌, ℕ, List, length}
use Rattle.mcap_wire.specs.declared.arrays.EntriesPlace.{EntriesPlace}
use Rattle.mcap_wire.specs.declared.arrays.EntriesPlace.TheVariants as entries
use Rattle.mcap_wire.specs.declared.counts.CountsPlace.{CountsPlace}
use Rattle.mcap_wire.specs.declared.counts.CountsPlace.TheVariants as counts
use Rattle.mcap_wire.specs.Maps.{KeysDiffer}
use Rattle.mcap_wire.specs.ArrayBytes.{entries_in, HoldsArray, HoldsCounts}

-- the entries that stand there
abbrev pub entries_there : EntriesPlace → ℕ → List (ℕ × ℕ)
entries_there (entries.Bytes bytes) count = entries_in 8 count bytes.now
entries_there (entries.List list) count = list.now

-- so many entries stand there
abbrev pub HasEntries : EntriesPlace → ℕ → Type 0
HasEntries (entries.Bytes bytes) count = HoldsArray 8 bytes.now count
HasEntries (entries.List list) count = length list.now ≡ count

-- the counts that stand there
abbrev pub counts_of : CountsPlace → ℕ → List (ℕ × ℕ)
counts_of (counts.Bytes bytes) count = entries_in 2 count bytes.now
counts_of (counts.List list) count = list.now

-- so many counts stand there, and their keys differ
abbrev pub HasCounts : CountsPlace → ℕ → Type 0
HasCounts (counts.Bytes bytes) count = HoldsCounts bytes.now count
HasCounts (counts.List list) count = (length list.now ≡ count) × KeysDiffer list.now
