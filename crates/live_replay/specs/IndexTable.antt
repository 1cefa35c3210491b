-- The entries of a Message Index, in the order of time and offset.
use Rattle.std.specs.Prelude.{◌≡◌, ◌⊎◌, ℕ, ◌<◌, ◌≤◌, List, map, IsPermutation, AllPairs}
use Rattle.live_replay.specs.declared.index_table.TimeAt.{TimeAt}

-- an entry, as it is given
abbrev pub time_at : ℕ × ℕ → TimeAt
time_at entry = record { time = entry.0; offset = entry.1 }

-- an entry doesn't come behind another: by its time, then by its offset
abbrev pub NotAfter : TimeAt → TimeAt → Type 0
NotAfter a b = (a.time < b.time) ⊎ ((a.time ≡ b.time) × (a.offset ≤ b.offset))

abbrev pub Rises : List TimeAt → Type 0
Rises table = AllPairs NotAfter table

-- just these entries, in order
pub record HasJustEntries (entries : List (ℕ × ℕ)) (table : List TimeAt) : Type 0 where
  pub same : IsPermutation (map time_at entries) table
  pub rises : Rises table
