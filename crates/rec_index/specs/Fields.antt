-- What the records of the summary hold (MCAP specification, "Records"). The channel's id of a Message Index stands beside its
-- entries.
use Rattle.std.specs.Prelude.{ℕ, List}

-- The times of a chunk's messages, the size and the CRC of its records before compression, the compression, and the records
-- as they are compressed.
pub record ChunkFields : Type 0 where
  pub start : ℕ
  pub end : ℕ
  pub size : ℕ
  pub crc : ℕ
  pub compression : List ℕ
  pub records : List ℕ

-- The times of a chunk, its chunk_start_offset and its chunk_length; the message_index_offsets, a Message Index for each
-- channel, and the message_index_length of all of them; the compression, the compressed_size and the uncompressed_size.
pub record ChunkIndexFields : Type 0 where
  pub start : ℕ
  pub end : ℕ
  pub offset : ℕ
  pub size : ℕ
  pub indexes : List (ℕ × ℕ)
  pub indexes_size : ℕ
  pub compression : List ℕ
  pub compressed : ℕ
  pub uncompressed : ℕ

-- where an Attachment stands and in how many bytes, its times, the size of its data, its name and its media type
pub record AttachmentIndexFields : Type 0 where
  pub offset : ℕ
  pub size : ℕ
  pub log_time : ℕ
  pub create_time : ℕ
  pub payload_size : ℕ
  pub name : List ℕ
  pub media_type : List ℕ

-- where a Metadata record stands, in how many bytes, and its name
pub record MetadataIndexFields : Type 0 where
  pub offset : ℕ
  pub size : ℕ
  pub name : List ℕ

-- The counts of the messages and of the records of each kind, the times of the messages, and the count of the messages of
-- each channel.
pub record StatisticsFields : Type 0 where
  pub messages : ℕ
  pub schemas : ℕ
  pub channels : ℕ
  pub attachments : ℕ
  pub metadata : ℕ
  pub chunks : ℕ
  pub start : ℕ
  pub end : ℕ
  pub counts : List (ℕ × ℕ)

-- the records of one opcode stand at that offset, in so many bytes
pub record SummaryOffsetFields : Type 0 where
  pub op : ℕ
  pub offset : ℕ
  pub size : ℕ
