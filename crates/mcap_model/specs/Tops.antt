-- The records of a file, and those inside its chunks.
use Rattle.std.specs.Prelude.{◌≡◌, ◌⊎◌, ℕ, zero, suc, ◌+◌, List, [], ◌∷◌, ◌++◌, length, take, drop, filter, slice_index, Bool, not, ◌&&◌, ◌==◌, nat_le, if◌then◌else◌}
use Rattle.std.specs.List.{flat_map, list_any}
use Rattle.mcap_wire.specs.Layout.{number, framed, magic, text_length, bytes_length}
use Rattle.rec_data.specs.Records.{schema_opcode, channel_opcode, message_opcode}
use Rattle.rec_index.specs.Records.{chunk_opcode}
use Rattle.mcap_model.specs.declared.replay.Place.{Place}

-- a record: its opcode and its content
pub record Top : Type 0 where
  pub op : ℕ
  pub content : List ℕ

abbrev pub top_bytes : Top → List ℕ
top_bytes t = framed t.op t.content

-- the records' bytes, one after the other
abbrev pub spelled : List Top → List ℕ
spelled tops = flat_map top_bytes tops

-- the offset behind the magic and these records: that of the next one
abbrev pub offset_behind : List Top → ℕ
offset_behind tops = 8 + length (spelled tops)

-- the bytes begin with the magic and these records, and this follows them
pub record Tops (bytes : List ℕ) (tops : List Top) (rest : List ℕ) : Type 0 where
  pub split : bytes ≡ magic ++ (spelled tops ++ rest)

-- the bytes begin with the magic and these records, or no record is asked for
abbrev pub Begins : List ℕ → List Top → Type 0
Begins bytes tops = (tops ≡ []) ⊎ ((rest : List ℕ) × Tops bytes tops rest)

-- this record stands in the file at that offset
pub record StandsIn (file : List ℕ) (offset : ℕ) (t : Top) : Type 0 where
  pub rest : List ℕ
  pub there : drop offset file ≡ top_bytes t ++ rest

-- ---- what stands at the front of some bytes

abbrev pub opcode : List ℕ → ℕ
opcode rest = slice_index rest 0

-- the length that the record there declares
abbrev pub declared_length : List ℕ → ℕ
declared_length rest = number (take 8 (drop 1 rest))

-- the nine bytes are there that stand before a content
abbrev pub has_head : List ℕ → Bool
has_head rest = nat_le 9 (length rest)

-- the content is all there
abbrev pub is_whole : List ℕ → Bool
is_whole rest = nat_le (9 + declared_length rest) (length rest)

abbrev pub first_top : List ℕ → Top
first_top rest = record { op = opcode rest; content = take (declared_length rest) (drop 9 rest) }

-- what stands behind the record there
abbrev pub behind_first : List ℕ → List ℕ
behind_first rest = drop (9 + declared_length rest) rest

-- ---- the records inside a chunk

-- a whole record of a valid opcode begins there
abbrev pub begins_record : List ℕ → Bool
begins_record rest = has_head rest && (not (opcode rest == 0) && is_whole rest)

-- at most so many records, one behind the other, as far as they are whole
abbrev pub first_records : ℕ → List ℕ → List Top
first_records zero bytes = []
first_records (suc n) bytes = if begins_record bytes then first_top bytes ∷ first_records n (behind_first bytes) else []

-- all records that some bytes begin with
unfoldable pub records_in : List ℕ → List Top
records_in bytes = first_records (length bytes) bytes

-- The bytes that a Chunk's content holds as its records: they stand with their length behind the compression, which
-- stands behind two times, the size and the CRC.
unfoldable pub chunk_records : List ℕ → List ℕ
chunk_records content =
    let at = 32 + text_length content 28 in
    take (bytes_length 8 content at) (drop (at + 8) content)

abbrev pub is_chunk : Top → Bool
is_chunk t = t.op == chunk_opcode

-- the records inside a chunk
abbrev pub inner_tops : Top → List Top
inner_tops t = records_in (chunk_records t.content)

-- a record of the top level, or the records inside it where it is a chunk
abbrev pub unchunked : Top → List Top
unchunked t = if is_chunk t then inner_tops t else t ∷ []

-- a Schema, a Channel or a Message
abbrev pub is_flat_kind : Top → Bool
is_flat_kind t = list_any (λ kind. kind == t.op) (schema_opcode ∷ channel_opcode ∷ message_opcode ∷ [])

-- the Schemas, Channels and Messages that a record is or holds
abbrev pub flattened : Top → List Top
flattened t = filter is_flat_kind (unchunked t)

-- those of a file, in the order in which a scan comes to them
abbrev pub flat : List Top → List Top
flat tops = flat_map flattened tops

-- ---- places

-- a record and where it stands
pub record Placed : Type 0 where
  pub place : Place
  pub top : Top

-- records inside the chunk at that offset, the first of which stands at the second offset among them
abbrev pub placed_inside : ℕ → ℕ → List Top → List Placed
placed_inside chunk at [] = []
placed_inside chunk at (t ∷ ts) =
    record { place = record { top = chunk; inner = at }; top = t } ∷ placed_inside chunk (at + length (top_bytes t)) ts

-- the Schemas, Channels and Messages that the record at that offset is or holds
abbrev pub placed_one : ℕ → Top → List Placed
placed_one at t =
    filter (λ p. is_flat_kind p.top) (if is_chunk t then placed_inside at 0 (inner_tops t)
    else record { place = record { top = at; inner = 0 }; top = t } ∷ [])

-- those of records, the first of which stands at that offset
abbrev pub placed_from : ℕ → List Top → List Placed
placed_from at [] = []
placed_from at (t ∷ ts) = placed_one at t ++ placed_from (at + length (top_bytes t)) ts

-- those of a file
abbrev pub placed : List Top → List Placed
placed tops = placed_from 8 tops
