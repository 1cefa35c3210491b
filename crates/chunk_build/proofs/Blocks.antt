-- What is built of an open chunk is the block of its records.
use Rattle.std.proofs.Common.{◌≡◌, ℕ, ◌+◌, ◌*◌, ◌/◌, List, [], ◌∷◌, ◌++◌, length, map, refl, sym, ap, ◌∙◌, arith}
use Rattle.std.specs.Prelude.{filter, ◌==◌}
use Rattle.std.proofs.lemmas.List.{append-nil, length-append, length-map}
use Rattle.mcap_wire.specs.Layout.{le, string, prefixed, framed}
use Rattle.mcap_wire.specs.Arrays.{entry_texts}
use Rattle.mcap_wire.proofs.Numbers.{length-le}
use Rattle.mcap_wire.proofs.Framing.{length-framed, length-string, length-prefixed}
use Rattle.mcap_wire.proofs.ArrayLemmas.{length-entry_texts}
use Rattle.rec_data.specs.declared.owned.Rec.{Rec}
use Rattle.rec_index.specs.Records.{chunk_text}
use Rattle.mcap_model.specs.declared.block.Block.{Block}
use Rattle.mcap_model.specs.declared.block.IndexPart.{IndexPart}
use Rattle.mcap_model.specs.Blocks.{logged, logged_channels, entries_for, index_bytes, indexes_bytes, chunk_bytes}
use Rattle.mcap_model.specs.Summary.{messages_on}
use Rattle.mcap_model.specs.Built.{IsBlock, parts_from}
use Rattle.chunk_build.specs.Rows.{row_bytes, rows_bytes, rows_parts}
use Rattle.chunk_build.specs.Opened.{chunk_of_records, IsBuilt}
use Rattle.chunk_build.proofs.RowLemmas.{length-row_bytes}

abbrev row_for : List Rec → ℕ → ℕ × List ℕ
row_for records id = (id, entry_texts 8 (entries_for records id))

one_index : (records : List Rec) (id : ℕ) → row_bytes (row_for records id) ≡ index_bytes records id
one_index records id =
    let texts = entry_texts 8 (entries_for records id) in
    ap (λ (l : List ℕ). framed 7 (le 2 id ++ l)) (sym (append-nil (le 4 (length texts) ++ texts)))

all_indexes : (records : List Rec) (ids : List ℕ) → rows_bytes (map (row_for records) ids) ≡ indexes_bytes records ids
all_indexes records [] = refl
all_indexes records (id ∷ ids) =
    ap (λ (l : List ℕ). l ++ rows_bytes (map (row_for records) ids)) (one_index records id)
    ∙ ap (λ (l : List ℕ). index_bytes records id ++ l) (all_indexes records ids)

entries_count : (records : List Rec) (id : ℕ) → length (entry_texts 8 (entries_for records id)) / 16 ≡ messages_on records id
entries_count records id =
    let n = length (filter (λ e. e.channel == id) (logged records)) in
    let size : length (entry_texts 8 (entries_for records id)) ≡ 16 * length (entries_for records id) = length-entry_texts 8 (entries_for records id) in
    let count : length (entries_for records id) ≡ n = length-map (filter (λ e. e.channel == id) (logged records)) (λ e. (e.time, e.offset)) in
    omega (arith, size, count)

all_parts : (records : List Rec) (at : ℕ) (ids : List ℕ) → rows_parts at (map (row_for records) ids) ≡ parts_from records at ids
all_parts records at [] = refl
all_parts records at (id ∷ ids) =
    let texts = entry_texts 8 (entries_for records id) in
    let far : at + (15 + length texts) ≡ at + length (index_bytes records id) =
    omega (arith, length-row_bytes (row_for records id), ap (λ (l : List ℕ). length l) (one_index records id)) in
    ap (λ (n : ℕ). part id at n ∷ rows_parts (at + (15 + length texts)) (map (row_for records) ids)) (entries_count records id)
    ∙ ap (λ (n : ℕ). part id at (messages_on records id) ∷ rows_parts n (map (row_for records) ids)) far
    ∙ ap (λ (ps : List IndexPart). part id at (messages_on records id) ∷ ps) (all_parts records (at + length (index_bytes records id)) ids)
  where
    part : ℕ → ℕ → ℕ → IndexPart
    part channel offset count = record { channel = channel; offset = offset; count = count }

pub length-chunk : (bytes : List ℕ) (start end size crc : ℕ) → length (framed 6 (chunk_text (record { start = start; end = end; size = size; crc = crc; compression = []; records = bytes }))) ≡ 49 + length bytes
length-chunk bytes start end size crc =
    let f = string [] ++ (prefixed 8 bytes ++ []) in
    omega (
      arith,
      length-framed 6 (chunk_text (record { start = start; end = end; size = size; crc = crc; compression = []; records = bytes })),
      length-append (le 8 start) (le 8 end ++ (le 8 size ++ (le 4 crc ++ f))),
      length-append (le 8 end) (le 8 size ++ (le 4 crc ++ f)),
      length-append (le 8 size) (le 4 crc ++ f),
      length-append (le 4 crc) f,
      length-append (string []) (prefixed 8 bytes ++ []),
      length-append (prefixed 8 bytes) [],
      length-le 8 start,
      length-le 8 end,
      length-le 8 size,
      length-le 4 crc,
      length-string [],
      length-prefixed 8 bytes,
    )

pub built_is_block : (records : List Rec) (b : Block) → IsBuilt (chunk_of_records records) b → IsBlock b records
built_is_block records b is =
    let size : length (chunk_bytes records) ≡ 49 + length (chunk_of_records records).bytes = length-chunk (chunk_of_records records).bytes (chunk_of_records records).start (chunk_of_records records).end _ _ in
    record {
      spelled = is.spelled ∙ ap (λ (l : List ℕ). chunk_bytes records ++ l) (all_indexes records (logged_channels records));
      chunk = is.chunk ∙ sym size;
      start = is.start;
      end = is.end;
      counted = is.counted;
      declaring = is.declaring;
      parts = is.parts ∙ all_parts records (49 + length (chunk_of_records records).bytes) (logged_channels records) ∙ ap (λ (n : ℕ). parts_from records n (logged_channels records)) (sym size);
    }
