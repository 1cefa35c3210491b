-- The content of a record as a row of fields.
use Rattle.std.specs.Prelude.{◌≡◌, ℕ, ◌^◌, ◌<◌, List, [], ◌∷◌, ◌++◌, length, All, IsUtf8}
use Rattle.mcap_wire.specs.Layout.{le, string, prefixed}
use Rattle.mcap_wire.specs.Arrays.{EntryFits, entry_texts, array_text}
use Rattle.mcap_wire.specs.Maps.{KeysDiffer, IsTextMap, pair_texts, text_map}

-- what a field is: a number of some bytes, a text, bytes behind their length of some bytes, a map of texts, an array of entries, or a map of counts
pub data Kind : Type 0 where
  a_number : ℕ → Kind
  a_text : Kind
  some_bytes : ℕ → Kind
  a_text_map : Kind
  an_array : Kind
  a_count_map : Kind

-- ---- a field of a kind

-- the value of a field
abbrev pub Value : Kind → Type 0
Value (a_number n) = ℕ
Value a_text = List ℕ
Value (some_bytes n) = List ℕ
Value a_text_map = List (List ℕ × List ℕ)
Value an_array = List (ℕ × ℕ)
Value a_count_map = List (ℕ × ℕ)

-- the bytes of a field
abbrev pub field_text : (kind : Kind) → Value kind → List ℕ
field_text (a_number n) value = le n value
field_text a_text text = string text
field_text (some_bytes n) bytes = prefixed n bytes
field_text a_text_map pairs = text_map pairs
field_text an_array entries = array_text 8 entries
field_text a_count_map counts = array_text 2 counts

-- the values that a field can have
abbrev pub FieldFits : (kind : Kind) → Value kind → Type 0
FieldFits (a_number n) value = value < 256 ^ n
FieldFits a_text text = (length text < 2 ^ 32) × IsUtf8 text
FieldFits (some_bytes n) bytes = length bytes < 256 ^ n
FieldFits a_text_map pairs = (length (pair_texts pairs) < 2 ^ 32) × IsTextMap pairs
FieldFits an_array entries = (length (entry_texts 8 entries) < 2 ^ 32) × All (EntryFits 8) entries
FieldFits a_count_map counts = (length (entry_texts 2 counts) < 2 ^ 32) × All (EntryFits 2) counts × KeysDiffer counts

-- ---- a row of fields

-- the values of a row
abbrev pub Values : List Kind → Type 0
Values [] = Unit {0}
Values (kind ∷ kinds) = Value kind × Values kinds

-- the bytes of a row, and what follows it
abbrev pub row : (kinds : List Kind) → Values kinds → List ℕ → List ℕ
row [] values rest = rest
row (kind ∷ kinds) values rest = field_text kind values.0 ++ row kinds values.1 rest

-- the values that a row can have
abbrev pub AllFit : (kinds : List Kind) → Values kinds → Type 0
AllFit [] values = Unit {0}
AllFit (kind ∷ kinds) values = FieldFits kind values.0 × AllFit kinds values.1

-- a content is this row, and this follows it
pub record RowBegins (kinds : List Kind) (content : List ℕ) (values : Values kinds) (rest : List ℕ) : Type 0 where
  pub spelled_there : content ≡ row kinds values rest
  pub fit : AllFit kinds values

-- a content shows a row, whatever follows it
abbrev pub ShowsRow : (kinds : List Kind) → List ℕ → Values kinds → Type 0
ShowsRow kinds content values = (rest : List ℕ) × RowBegins kinds content values rest
