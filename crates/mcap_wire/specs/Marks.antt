-- Which keys a table of bits marks.
use Rattle.std.specs.Prelude.{ℕ, ◌/◌, ◌%◌, Bool, List, ◌==◌, slice_index}
use Rattle.std.specs.Int.{bit_at}

-- whether a key's bit is set, 64 to a word
abbrev pub is_marked : List ℕ → ℕ → Bool
is_marked words key = bit_at (slice_index words (key / 64)) (key % 64) == 1
