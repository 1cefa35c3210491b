-- What a region is to its callers.
use Rattle.std.specs.Prelude.{ℕ, ◌-◌, ◌≤◌, List, [], ◌++◌, length, Vec, vec_len, vec_capacity}
use Rattle.std.specs.declared.alloc.Global.{Global}

-- For how many bytes there is room, and the bytes that stand there.
pub record RegionView : Type 0 where
  pub room : ℕ
  pub bytes : List ℕ

abbrev pub empty_region : ℕ → RegionView
empty_region room = record { room = room; bytes = [] }

-- with these bytes more
abbrev pub pushed : RegionView → List ℕ → RegionView
pushed r bytes = record r { bytes = r.bytes ++ bytes }

-- for how many bytes more there is room
abbrev pub spare : RegionView → ℕ
spare r = r.room - length r.bytes

-- ---- how a region keeps its bytes

abbrev pub view_of : ℕ → Vec ℕ Global → RegionView
view_of room bytes = record { room = room; bytes = bytes.items }

-- the vector has the room, and never needs more
pub record IsRegion (room : ℕ) (bytes : Vec ℕ Global) : Type 0 where
  pub within : vec_len bytes ≤ room
  pub reserved : room ≤ vec_capacity bytes
