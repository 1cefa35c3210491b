-- The entries that a Message Index is to have.
use Rattle.std.specs.Prelude.{◌<◌, ℕ, List, AllPairs}
use Rattle.mcap_model.specs.Places.{Has}
use Rattle.mcap_model.specs.Tops.{Top}
use Rattle.mcap_model.specs.Whole.{IsEntryOf}

-- an entry is a log time and an offset
abbrev pub entry_offset : ℕ × ℕ → ℕ
entry_offset entry = entry.1

-- the entries of all messages of this channel among the records, in the order of their offsets
pub record ListsEntries (records : List Top) (channel : ℕ) (entries : List (ℕ × ℕ)) : Type 0 where
  pub are : (entry : ℕ × ℕ) → Has entries entry → IsEntryOf records channel entry
  pub all : (entry : ℕ × ℕ) → IsEntryOf records channel entry → Has entries entry
  pub rises : AllPairs (λ a b. entry_offset a < entry_offset b) entries
