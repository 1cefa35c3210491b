-- The room of a vector for what is written.
use Rattle.std.specs.Prelude.{ℕ, ◌+◌, ◌<◌, ◌≤◌, Vec, vec_len, vec_capacity}
use Rattle.std.specs.declared.alloc.Global.{Global}

-- a vector has room for n bytes more
abbrev pub HasRoom : Vec ℕ Global → ℕ → Type 0
HasRoom out n = vec_len out + n ≤ vec_capacity out

-- a vector has no room for n bytes more
abbrev pub LacksRoom : Vec ℕ Global → ℕ → Type 0
LacksRoom out n = vec_capacity out < vec_len out + n
