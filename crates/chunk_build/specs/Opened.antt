-- What an open chunk holds, as a plain value, and the records for which it stands.
use Rattle.std.specs.Prelude.{◌≡◌, ℕ, ◌+◌, List, [], ◌++◌, length, map, min, max, ◌==◌, if◌then◌else◌}
use Rattle.mcap_wire.specs.Layout.{le, framed}
use Rattle.mcap_wire.specs.Arrays.{entry_texts}
use Rattle.mcap_crc.specs.Remainder.{remainder}
use Rattle.rec_data.specs.declared.owned.Rec.{Rec}
use Rattle.rec_index.specs.Fields.{ChunkFields}
use Rattle.rec_index.specs.Records.{chunk_opcode, chunk_text}
use Rattle.mcap_model.specs.declared.block.Block.{Block}
use Rattle.mcap_model.specs.History.{history_bytes}
use Rattle.mcap_model.specs.Blocks.{least, greatest, logged, log_times, logged_channels, entries_for}
use Rattle.mcap_model.specs.Built.{declarations}
use Rattle.chunk_build.specs.Rows.{with_entry, rows_bytes, rows_parts}

-- the fields of a Chunk of these records, which are not compressed, with these two times
abbrev pub plain_chunk : ℕ → ℕ → List ℕ → ChunkFields
plain_chunk start end bytes = record {
  start = start;
  end = end;
  size = length bytes;
  crc = remainder bytes;
  compression = [];
  records = bytes;
}

-- the records' bytes, the entries of each channel with a message, the least and the greatest log time, and the numbers of
-- messages and of declarations
pub record Opened : Type 0 where
  pub bytes : List ℕ
  pub rows : List (ℕ × List ℕ)
  pub start : ℕ
  pub end : ℕ
  pub messages : ℕ
  pub declared : ℕ

abbrev pub rows_of : List Rec → List (ℕ × List ℕ)
rows_of records = map (λ id. (id, entry_texts 8 (entries_for records id))) (logged_channels records)

-- what stands for these records
abbrev pub chunk_of_records : List Rec → Opened
chunk_of_records records = record {
  bytes = history_bytes records;
  rows = rows_of records;
  start = least (log_times records);
  end = greatest (log_times records);
  messages = length (logged records);
  declared = length (declarations records);
}

-- ---- one record more, whose bytes stand at the end already

-- a message is counted, which begins at that offset
abbrev pub with_indexed_message : Opened → ℕ → ℕ → ℕ → Opened
with_indexed_message o offset channel time = record {
  bytes = o.bytes;
  rows = with_entry o.rows channel (le 8 time ++ le 8 offset);
  start = if o.messages == 0 then time else min o.start time;
  end = max o.end time;
  messages = o.messages + 1;
  declared = o.declared;
}

-- a declaration is counted
abbrev pub with_declaration : Opened → Opened
with_declaration o = record {
  bytes = o.bytes;
  rows = o.rows;
  start = o.start;
  end = o.end;
  messages = o.messages;
  declared = o.declared + 1;
}

-- bytes more
abbrev pub with_bytes : Opened → List ℕ → Opened
with_bytes o bytes = record {
  bytes = o.bytes ++ bytes;
  rows = o.rows;
  start = o.start;
  end = o.end;
  messages = o.messages;
  declared = o.declared;
}

-- ---- the block that is built of it

pub record IsBuilt (o : Opened) (b : Block) : Type 0 where
  pub spelled : b.bytes ≡ framed chunk_opcode (chunk_text (plain_chunk o.start o.end o.bytes)) ++ rows_bytes o.rows
  pub chunk : b.chunk_length ≡ 49 + length o.bytes
  pub start : b.start_time ≡ o.start
  pub end : b.end_time ≡ o.end
  pub counted : b.messages ≡ o.messages
  pub declaring : b.declared ≡ o.declared
  pub parts : b.indexes.items ≡ rows_parts (49 + length o.bytes) o.rows
