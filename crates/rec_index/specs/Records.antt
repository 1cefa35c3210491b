-- The contents of the records of the summary.
use Rattle.std.specs.Prelude.{ℕ, List, [], ◌∷◌}
use Rattle.mcap_wire.specs.Contents.{Kind, a_number, a_text, some_bytes, an_array, a_count_map, Values, row, ShowsRow}
use Rattle.rec_index.specs.Fields.{ChunkFields, ChunkIndexFields, AttachmentIndexFields, MetadataIndexFields, StatisticsFields, SummaryOffsetFields}

-- ---- the opcodes

abbrev pub chunk_opcode : ℕ
chunk_opcode = 6

abbrev pub message_index_opcode : ℕ
message_index_opcode = 7

abbrev pub chunk_index_opcode : ℕ
chunk_index_opcode = 8

abbrev pub attachment_index_opcode : ℕ
attachment_index_opcode = 10

abbrev pub statistics_opcode : ℕ
statistics_opcode = 11

abbrev pub metadata_index_opcode : ℕ
metadata_index_opcode = 13

abbrev pub summary_offset_opcode : ℕ
summary_offset_opcode = 14

-- ---- Summary Offset

abbrev pub summary_offset_kinds : List Kind
summary_offset_kinds = a_number 1 ∷ a_number 8 ∷ a_number 8 ∷ []

abbrev pub summary_offset_values : SummaryOffsetFields → Values summary_offset_kinds
summary_offset_values f = (f.op, (f.offset, (f.size, tt)))

-- the content of a Summary Offset
abbrev pub summary_offset_text : SummaryOffsetFields → List ℕ
summary_offset_text f = row summary_offset_kinds (summary_offset_values f) []

-- a content shows these fields, whatever follows them
abbrev pub ShowsSummaryOffset : List ℕ → SummaryOffsetFields → Type 0
ShowsSummaryOffset content f = ShowsRow summary_offset_kinds content (summary_offset_values f)

-- ---- Metadata Index

abbrev pub metadata_index_kinds : List Kind
metadata_index_kinds = a_number 8 ∷ a_number 8 ∷ a_text ∷ []

abbrev pub metadata_index_values : MetadataIndexFields → Values metadata_index_kinds
metadata_index_values f = (f.offset, (f.size, (f.name, tt)))

-- the content of a Metadata Index
abbrev pub metadata_index_text : MetadataIndexFields → List ℕ
metadata_index_text f = row metadata_index_kinds (metadata_index_values f) []

-- a content shows these fields, whatever follows them
abbrev pub ShowsMetadataIndex : List ℕ → MetadataIndexFields → Type 0
ShowsMetadataIndex content f = ShowsRow metadata_index_kinds content (metadata_index_values f)

-- ---- Attachment Index

abbrev pub attachment_index_kinds : List Kind
attachment_index_kinds = a_number 8 ∷ a_number 8 ∷ a_number 8 ∷ a_number 8 ∷ a_number 8 ∷ a_text ∷ a_text ∷ []

abbrev pub attachment_index_values : AttachmentIndexFields → Values attachment_index_kinds
attachment_index_values f =
    (f.offset, (f.size, (f.log_time, (f.create_time, (f.payload_size, (f.name, (f.media_type, tt)))))))

-- the content of an Attachment Index
abbrev pub attachment_index_text : AttachmentIndexFields → List ℕ
attachment_index_text f = row attachment_index_kinds (attachment_index_values f) []

-- a content shows these fields, whatever follows them
abbrev pub ShowsAttachmentIndex : List ℕ → AttachmentIndexFields → Type 0
ShowsAttachmentIndex content f = ShowsRow attachment_index_kinds content (attachment_index_values f)

-- ---- Chunk

abbrev pub chunk_kinds : List Kind
chunk_kinds = a_number 8 ∷ a_number 8 ∷ a_number 8 ∷ a_number 4 ∷ a_text ∷ some_bytes 8 ∷ []

abbrev pub chunk_values : ChunkFields → Values chunk_kinds
chunk_values f = (f.start, (f.end, (f.size, (f.crc, (f.compression, (f.records, tt))))))

-- the content of a Chunk
abbrev pub chunk_text : ChunkFields → List ℕ
chunk_text f = row chunk_kinds (chunk_values f) []

-- a content shows these fields, whatever follows them
abbrev pub ShowsChunk : List ℕ → ChunkFields → Type 0
ShowsChunk content f = ShowsRow chunk_kinds content (chunk_values f)

-- ---- Message Index

-- the fields of a Message Index: the channel's id, and for each message its log time and its offset in the chunk
abbrev pub message_index_kinds : List Kind
message_index_kinds = a_number 2 ∷ an_array ∷ []

abbrev pub message_index_values : ℕ → List (ℕ × ℕ) → Values message_index_kinds
message_index_values channel_id entries =
    (channel_id, (entries, tt))

-- the content of a Message Index
abbrev pub message_index_text : ℕ → List (ℕ × ℕ) → List ℕ
message_index_text channel_id entries =
    row message_index_kinds (message_index_values channel_id entries) []

-- a content shows these fields, whatever follows them
abbrev pub ShowsMessageIndex : List ℕ → ℕ → List (ℕ × ℕ) → Type 0
ShowsMessageIndex content channel_id entries =
    ShowsRow message_index_kinds content (message_index_values channel_id entries)

-- ---- Chunk Index

abbrev pub chunk_index_kinds : List Kind
chunk_index_kinds =
    a_number 8 ∷ a_number 8 ∷ a_number 8 ∷ a_number 8 ∷ a_count_map ∷ a_number 8 ∷ a_text ∷ a_number 8 ∷ a_number 8 ∷ []

abbrev pub chunk_index_values : ChunkIndexFields → Values chunk_index_kinds
chunk_index_values f =
    (f.start, (f.end, (f.offset, (f.size, (f.indexes, (f.indexes_size, (f.compression, (f.compressed, (f.uncompressed, tt)))))))))

-- the content of a Chunk Index
abbrev pub chunk_index_text : ChunkIndexFields → List ℕ
chunk_index_text f = row chunk_index_kinds (chunk_index_values f) []

-- a content shows these fields, whatever follows them
abbrev pub ShowsChunkIndex : List ℕ → ChunkIndexFields → Type 0
ShowsChunkIndex content f = ShowsRow chunk_index_kinds content (chunk_index_values f)

-- ---- Statistics

abbrev pub statistics_kinds : List Kind
statistics_kinds = a_number 8 ∷ a_number 2 ∷ a_number 4 ∷ a_number 4 ∷ a_number 4 ∷ a_number 4 ∷ a_number 8 ∷ a_number 8
    ∷ a_count_map ∷ []

abbrev pub statistics_values : StatisticsFields → Values statistics_kinds
statistics_values f =
    (f.messages, (f.schemas, (f.channels, (f.attachments, (f.metadata, (f.chunks, (f.start, (f.end, (f.counts, tt)))))))))

-- the content of a Statistics
abbrev pub statistics_text : StatisticsFields → List ℕ
statistics_text f = row statistics_kinds (statistics_values f) []

-- a content shows these fields, whatever follows them
abbrev pub ShowsStatistics : List ℕ → StatisticsFields → Type 0
ShowsStatistics content f = ShowsRow statistics_kinds content (statistics_values f)
