-- What is read of an array of entries or a map of counts at an offset, and why it may be refused.
use Rattle.std.specs.Prelude.{◌≡◌, ◌≢◌, ℕ, ◌+◌, ◌%◌, ◌^◌, ◌<◌, ◌≤◌, List, length, Result, Ok, Err, All}
use Rattle.mcap_wire.specs.declared.faults.Why.{Why}
use Rattle.mcap_wire.specs.declared.faults.Why.TheVariants.{Short, BadText, BadLength, DoubleKey}
use Rattle.mcap_wire.specs.Layout.{FieldAt, text_length}
use Rattle.mcap_wire.specs.Reading.{TextIsShort}
use Rattle.mcap_wire.specs.MapReading.{a_uint, MapFails}
use Rattle.mcap_wire.specs.Maps.{KeysDiffer}
use Rattle.mcap_wire.specs.Arrays.{entry_texts, array_text, EntryFits}

-- an array stands there
pub record ArrayAt (n : ℕ) (content : List ℕ) (at : ℕ) (entries : List (ℕ × ℕ)) (end : ℕ) : Type 0 where
  pub field : FieldAt content at end (array_text n entries)
  pub size : end ≡ at + 4 + length (entry_texts n entries)
  pub fits : length (entry_texts n entries) < 2 ^ 32
  pub entries_fit : All (EntryFits n) entries

-- why an array can't be read: it is cut short, or its length is no multiple of 16
abbrev pub EntriesFail : List ℕ → ℕ → Why → Type 0
EntriesFail content at Short = TextIsShort content at
EntriesFail content at BadText = ⊥
EntriesFail content at BadLength =
    (at + 4 + text_length content at ≤ length content) × (text_length content at % 16 ≢ 0)
EntriesFail content at DoubleKey = ⊥

abbrev pub ReadsEntries : List ℕ → ℕ → Result (List (ℕ × ℕ) × ℕ) Why → Type 0
ReadsEntries content at (Ok r) = ArrayAt 8 content at r.0 r.1
ReadsEntries content at (Err why) = EntriesFail content at why

-- why a map of counts can't be read: no count has a text, so never for a bad one
abbrev pub CountsFail : List ℕ → ℕ → Why → Type 0
CountsFail content at why = MapFails (a_uint 2) (a_uint 8) content at why

-- a map of counts stands there
pub record CountsAt (content : List ℕ) (at : ℕ) (counts : List (ℕ × ℕ)) (end : ℕ) : Type 0 where
  pub array : ArrayAt 2 content at counts end
  pub keys_differ : KeysDiffer counts

abbrev pub ReadsCounts : List ℕ → ℕ → Result (List (ℕ × ℕ) × ℕ) Why → Type 0
ReadsCounts content at (Ok r) = CountsAt content at r.0 r.1
ReadsCounts content at (Err why) = CountsFail content at why
