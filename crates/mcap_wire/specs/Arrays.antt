-- Arrays of entries: how one lies in a file.
use Rattle.std.specs.Prelude.{ℕ, ◌+◌, ◌^◌, ◌<◌, List, ◌++◌, length}
use Rattle.std.specs.List.{flat_map}
use Rattle.mcap_wire.specs.Layout.{le}

-- ---- how they lie

-- an entry: its first number in n bytes, its second in eight
abbrev pub entry_text : ℕ → ℕ × ℕ → List ℕ
entry_text n entry = le n entry.0 ++ le 8 entry.1

-- entries, one behind the other
abbrev pub entry_texts : ℕ → List (ℕ × ℕ) → List ℕ
entry_texts n = flat_map (entry_text n)

-- an array or a map: the length of its entries in four bytes, then its entries
abbrev pub array_text : ℕ → List (ℕ × ℕ) → List ℕ
array_text n entries = le 4 (length (entry_texts n entries)) ++ entry_texts n entries

-- the numbers of an entry fit in their bytes
pub record EntryFits (n : ℕ) (entry : ℕ × ℕ) : Type 0 where
  pub first_fits : entry.0 < 256 ^ n
  pub second_fits : entry.1 < 256 ^ 8
