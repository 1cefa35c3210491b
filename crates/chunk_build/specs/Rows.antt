-- The rows of an open chunk: for each channel the entries of its Message Index.
use Rattle.std.specs.Prelude.{◌≡◌, ℕ, ◌+◌, ◌<◌, ◌≤◌, ◌/◌, List, [], ◌∷◌, ◌++◌, length, map, filter, Bool, ◌==◌, nat_lt, if◌then◌else◌, slice_index_or, Result, AllPairs, All, Contains, vec_len, vec_capacity}
use Rattle.std.specs.List.{flat_map}
use Rattle.mcap_wire.specs.Layout.{le, framed}
use Rattle.mcap_wire.specs.Writing.{HasRoom}
use Rattle.rec_index.specs.Records.{message_index_opcode}
use Rattle.mcap_model.specs.declared.block.IndexPart.{IndexPart}
use Rattle.mcap_model.specs.Summary.{has_some}
use Rattle.chunk_build.specs.declared.row.Row.{Row}
use Rattle.chunk_build.specs.declared.row.Rows.{Rows}
use Rattle.chunk_build.specs.Keys.{FoundKeyPlace}

-- ---- rows as pairs of a channel and the bytes of its entries

abbrev pub row_pair : Row → ℕ × List ℕ
row_pair row = (row.channel, row.entries.items)

abbrev pub has_entries : ℕ × List ℕ → Bool
has_entries row = has_some row.1

-- the rows that have an entry
abbrev pub rows_in : List Row → List (ℕ × List ℕ)
rows_in rows = filter has_entries (map row_pair rows)

-- the channels ascend
abbrev pub RowsRise : List Row → Type 0
RowsRise rows = AllPairs (λ (a b : Row). a.channel < b.channel) rows

-- each channel with an entry is among these
abbrev pub AreUsed : List ℕ → List Row → Type 0
AreUsed used rows = All (λ (p : ℕ × List ℕ). Contains used p.0) (rows_in rows)

-- the rows ascend, and those with an entry are known
pub record RowsSound (rows : Rows) : Type 0 where
  pub rise : RowsRise rows.list.items
  pub used : AreUsed rows.used.items rows.list.items

-- the row of a channel, or where it is to stand
abbrev pub FoundRow : List Row → ℕ → Result ℕ ℕ → Type 0
FoundRow = FoundKeyPlace (λ (row : Row). row.channel)

-- a row of that channel with room for an entry
pub record HasRow (rows : List Row) (i channel : ℕ) : Type 0 where
  pub within : i < length rows
  pub same : (d : Row) → (slice_index_or rows i d).channel ≡ channel
  pub room : (d : Row) → HasRoom (slice_index_or rows i d).entries 16

-- and room for the channel among those in use
pub record IsRowReady (rows : Rows) (i channel : ℕ) : Type 0 where
  pub row : HasRow rows.list.items i channel
  pub room : vec_len rows.used + 1 ≤ vec_capacity rows.used

-- rows in ascending order, and an entry more on a channel
abbrev pub with_entry : List (ℕ × List ℕ) → ℕ → List ℕ → List (ℕ × List ℕ)
with_entry [] id entry = (id, entry) ∷ []
with_entry (row ∷ rows) id entry =
    if nat_lt id row.0 then (id, entry) ∷ row ∷ rows
    else if id == row.0 then (row.0, row.1 ++ entry) ∷ rows
    else row ∷ with_entry rows id entry

-- ---- their Message Indexes

-- the framed Message Index of a row
abbrev pub row_bytes : ℕ × List ℕ → List ℕ
row_bytes row = framed message_index_opcode (le 2 row.0 ++ (le 4 (length row.1) ++ row.1))

abbrev pub rows_bytes : List (ℕ × List ℕ) → List ℕ
rows_bytes rows = flat_map row_bytes rows

-- how many bytes that is
abbrev pub rows_size : List (ℕ × List ℕ) → ℕ
rows_size [] = 0
rows_size (row ∷ rows) = 15 + length row.1 + rows_size rows

-- where they start and what they hold, where the first one stands at that offset
abbrev pub rows_parts : ℕ → List (ℕ × List ℕ) → List IndexPart
rows_parts at [] = []
rows_parts at (row ∷ rows) =
    record { channel = row.0; offset = at; count = length row.1 / 16 } ∷ rows_parts (at + (15 + length row.1)) rows

-- ---- a row is taken

-- The entries of a channel are taken, if it has some, and its Message Index is added to the bytes and to the parts. What is left is
-- of later channels.
pub record TakesRow (old new : List (ℕ × List ℕ)) (channel : ℕ) (bytes : List ℕ × List ℕ)
    (parts : List IndexPart × List IndexPart) : Type 0 where
  pub taken : List (ℕ × List ℕ)
  pub joined : old ≡ taken ++ new
  pub bytes_are : bytes.1 ≡ bytes.0 ++ rows_bytes taken
  pub parts_are : parts.1 ≡ parts.0 ++ rows_parts (length bytes.0) taken
  pub later : All (λ (p : ℕ × List ℕ). channel < p.0) new
