-- What a printing that failed counts of the bytes that the sink took.
use Rattle.std.specs.Prelude.{◌≡◌, ℕ, ◌+◌, ◌-◌, ◌^◌, ◌<◌, ◌≤◌, List, length, Option, Some, Result, Ok, Err}
use Rattle.mcap_io.specs.declared.outside.Short.{Short}

-- how many bytes are written at once, at most
abbrev pub piece_limit : ℕ
piece_limit = 131072

-- Where the bytes that were taken are told, all but so many at most are counted; a count at the end of its type stands there.
abbrev pub CountsAllBut : ℕ → Option (List ℕ) → Option (List ℕ) → Result Unit Short → Type 0
CountsAllBut most old new (Ok it) = Unit {0}
CountsAllBut most old new (Err short) = (before : List ℕ) → old ≡ Some before
    → (now : List ℕ) × (new ≡ Some now) × (short.taken < 2 ^ 64 - 1 → length now ≤ length before + (short.taken + most))
