-- The summary of a file: its text, from what was noted of the records, the blocks and the extras.
use Rattle.std.specs.Prelude.{ℕ, ◌+◌, List, [], ◌∷◌, ◌++◌, length, map, filter, take, min, Bool, true, false, ◌==◌, ◌^◌, ◌-◌}
use Rattle.std.specs.List.{flat_map}
use Rattle.mcap_wire.specs.Layout.{number, framed, magic, part, text_length, text_bytes, bytes_length}
use Rattle.mcap_crc.specs.Remainder.{remainder}
use Rattle.rec_data.specs.declared.owned.Rec.{Rec}
use Rattle.rec_data.specs.Owned.{rec_text}
use Rattle.rec_data.specs.Fields.{FooterFields}
use Rattle.rec_data.specs.Records.{footer_opcode, footer_text, schema_opcode, channel_opcode, attachment_opcode, metadata_opcode}
use Rattle.rec_index.specs.Fields.{ChunkIndexFields, StatisticsFields, SummaryOffsetFields}
use Rattle.rec_index.specs.Records.{summary_offset_opcode, chunk_index_text, attachment_index_text, statistics_text, metadata_index_text, summary_offset_text, chunk_index_opcode, attachment_index_opcode, statistics_opcode, metadata_index_opcode}
use Rattle.mcap_model.specs.Tops.{Top, top_bytes}
use Rattle.mcap_model.specs.History.{is_schema, is_channel, history_bytes, without_repeats}
use Rattle.mcap_model.specs.Blocks.{least, greatest, logged, log_times, logged_channels, index_bytes, indexes_bytes, chunk_bytes}

-- What a summary is made of: the records in their order, each block's offset and records, and each extra's offset and
-- record.
pub record Noted : Type 0 where
  pub records : List Rec
  pub blocks : List (ℕ × List Rec)
  pub extras : List (ℕ × Top)

-- ---- the contents of its records

abbrev pub schemas_of : List Rec → List Rec
schemas_of records = filter is_schema (without_repeats records)

abbrev pub channels_of : List Rec → List Rec
channels_of records = filter is_channel (without_repeats records)

-- a count as it is written in four bytes
abbrev pub capped : ℕ → ℕ
capped n = min n (2 ^ 32 - 1)

-- how many of the messages are on a channel
abbrev pub messages_on : List Rec → ℕ → ℕ
messages_on records channel = length (filter (λ e. e.channel == channel) (logged records))

abbrev pub extras_of_kind : ℕ → List (ℕ × Top) → List (ℕ × Top)
extras_of_kind op extras = filter (λ e. e.1.op == op) extras

abbrev pub written_statistics : Noted → StatisticsFields
written_statistics n = record {
  messages = length (logged n.records);
  schemas = length (schemas_of n.records);
  channels = capped (length (channels_of n.records));
  attachments = capped (length (extras_of_kind attachment_opcode n.extras));
  metadata = capped (length (extras_of_kind metadata_opcode n.extras));
  chunks = capped (length n.blocks);
  start = least (log_times n.records);
  end = greatest (log_times n.records);
  counts = map (λ id. (id, messages_on n.records id)) (logged_channels n.records);
}

abbrev pub statistics_content : Noted → List ℕ
statistics_content n = statistics_text (written_statistics n)

-- the offset of the Message Index of each channel, where the first one stands at that offset
abbrev pub index_offsets : List Rec → ℕ → List ℕ → List (ℕ × ℕ)
index_offsets records at [] = []
index_offsets records at (id ∷ ids) = (id, at) ∷ index_offsets records (at + length (index_bytes records id)) ids

-- the fields of the Chunk Index of a chunk of some records that stands at that offset
abbrev pub written_index : ℕ → List Rec → ChunkIndexFields
written_index offset records = record {
  start = least (log_times records);
  end = greatest (log_times records);
  offset = offset;
  size = length (chunk_bytes records);
  indexes = index_offsets records (offset + length (chunk_bytes records)) (logged_channels records);
  indexes_size = length (indexes_bytes records (logged_channels records));
  compression = [];
  compressed = length (history_bytes records);
  uncompressed = length (history_bytes records);
}

abbrev pub chunk_index_content : ℕ × List Rec → List ℕ
chunk_index_content block = chunk_index_text (written_index block.0 block.1)

-- An Attachment's two times stand in front of its name, its media type and its data, each behind its length.
abbrev pub attachment_index_content : ℕ × Top → List ℕ
attachment_index_content extra =
    let content = extra.1.content in
    let media = 20 + text_length content 16 in
    attachment_index_text (record {
      offset = extra.0;
      size = length (top_bytes extra.1);
      log_time = number (part 0 8 content);
      create_time = number (part 8 16 content);
      payload_size = bytes_length 8 content (media + 4 + text_length content media);
      name = text_bytes content 16;
      media_type = text_bytes content media;
    })

abbrev pub metadata_index_content : ℕ × Top → List ℕ
metadata_index_content extra =
    metadata_index_text (record
    { offset = extra.0; size = length (top_bytes extra.1); name = text_bytes extra.1.content 0 })

-- ---- its groups

-- the records of one opcode, which stand together
pub record Group : Type 0 where
  pub op : ℕ
  pub contents : List (List ℕ)

abbrev pub group_bytes : Group → List ℕ
group_bytes g = flat_map (framed g.op) g.contents

abbrev pub has_some : {X : Type 0} → List X → Bool
has_some [] = false
has_some (x ∷ xs) = true

-- the groups that are there
abbrev pub groups_of : Noted → List Group
groups_of n = filter (λ g. has_some g.contents) (
    record { op = schema_opcode; contents = map rec_text (schemas_of n.records) }
    ∷ record { op = channel_opcode; contents = map rec_text (channels_of n.records) }
    ∷ record { op = statistics_opcode; contents = statistics_content n ∷ [] }
    ∷ record { op = chunk_index_opcode; contents = map chunk_index_content n.blocks }
    ∷ record
    { op = attachment_index_opcode; contents = map attachment_index_content (extras_of_kind attachment_opcode n.extras) }
    ∷ record
    { op = metadata_index_opcode; contents = map metadata_index_content (extras_of_kind metadata_opcode n.extras) }
    ∷ [])

-- the fields of the Summary Offset of a group that stands at that offset
abbrev pub group_fields : Group → ℕ → SummaryOffsetFields
group_fields g at = record { op = g.op; offset = at; size = length (group_bytes g) }

-- a Summary Offset for each group, the first of which stands at that offset
abbrev pub offset_contents : ℕ → List Group → List (List ℕ)
offset_contents at [] = []
offset_contents at (g ∷ gs) = summary_offset_text (group_fields g at) ∷ offset_contents (at + length (group_bytes g)) gs

abbrev pub footer_of_offsets : ℕ → ℕ → ℕ → FooterFields
footer_of_offsets summary offsets crc =
    record { summary_start = summary; summary_offset_start = offsets; summary_crc = crc }

-- The summary at that offset, its Summary Offsets, the Footer and the magic. The Footer's CRC is that of all before it,
-- and of the Footer's front with the two offsets.
unfoldable pub summary_text : Noted → ℕ → List ℕ
summary_text n at =
    let groups = flat_map group_bytes (groups_of n) in
    let offsets = flat_map (framed summary_offset_opcode) (offset_contents at (groups_of n)) in
    let behind = at + length groups in
    let front = take 25 (framed footer_opcode (footer_text (footer_of_offsets at behind 0))) in
    groups
    ++ (offsets
    ++ (framed footer_opcode (footer_text (footer_of_offsets at behind (remainder (groups ++ (offsets ++ front))))) ++ magic))
