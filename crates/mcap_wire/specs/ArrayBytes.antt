-- The entries of an array that is kept as its bytes.
use Rattle.std.specs.Prelude.{◌≡◌, ℕ, zero, suc, ◌+◌, List, [], ◌∷◌, take, drop, Result, Ok, Err, All}
use Rattle.mcap_wire.specs.declared.faults.Why.{Why}
use Rattle.mcap_wire.specs.Layout.{number}
use Rattle.mcap_wire.specs.Maps.{KeysDiffer}
use Rattle.mcap_wire.specs.MapReading.{a_uint, MapStops}
use Rattle.mcap_wire.specs.Arrays.{EntryFits, entry_texts}

-- the first entries, of which each begins with a number of n bytes
unfoldable pub entries_in : ℕ → ℕ → List ℕ → List (ℕ × ℕ)
entries_in n zero bytes = []
entries_in n (suc count) bytes =
    (number (take n bytes), number (take 8 (drop n bytes))) ∷ entries_in n count (drop (n + 8) bytes)

-- these bytes are an array of so many entries
pub record HoldsArray (n : ℕ) (bytes : List ℕ) (count : ℕ) : Type 0 where
  pub spelled : bytes ≡ entry_texts n (entries_in n count bytes)
  pub entries_fit : All (EntryFits n) (entries_in n count bytes)

-- these bytes are a map of so many counts
pub record HoldsCounts (bytes : List ℕ) (count : ℕ) : Type 0 where
  pub array : HoldsArray 2 bytes count
  pub keys_differ : KeysDiffer (entries_in 2 count bytes)

abbrev pub CountsCounts : List ℕ → Result ℕ Why → Type 0
CountsCounts bytes (Ok count) = HoldsCounts bytes count
CountsCounts bytes (Err why) = MapStops (a_uint 2) (a_uint 8) bytes why
