-- What the records hold (MCAP specification, "Records"). The id of a Schema or a Channel and the channel's id of a Message
-- stand beside these fields.
use Rattle.std.specs.Prelude.{ℕ, List}

pub record HeaderFields : Type 0 where
  pub profile : List ℕ
  pub library : List ℕ

-- where the summary starts, where its offsets start, and its CRC
pub record FooterFields : Type 0 where
  pub summary_start : ℕ
  pub summary_offset_start : ℕ
  pub summary_crc : ℕ

-- what a schema is but for its id: its name, its encoding and its data
pub record SchemaFields : Type 0 where
  pub name : List ℕ
  pub encoding : List ℕ
  pub payload : List ℕ

-- what a channel is but for its id: the id of its schema, or 0 where it has none, its topic, the encoding of its
-- messages, and its metadata
pub record ChannelFields : Type 0 where
  pub schema : ℕ
  pub topic : List ℕ
  pub encoding : List ℕ
  pub metadata : List (List ℕ × List ℕ)

-- what a message is but for its channel
pub record MessageFields : Type 0 where
  pub sequence : ℕ
  pub log_time : ℕ
  pub publish_time : ℕ
  pub payload : List ℕ

-- when a file was logged and when it was created, its name, its media type, its data and the CRC of these
pub record AttachmentFields : Type 0 where
  pub log_time : ℕ
  pub create_time : ℕ
  pub name : List ℕ
  pub media_type : List ℕ
  pub payload : List ℕ
  pub crc : ℕ

pub record MetadataFields : Type 0 where
  pub name : List ℕ
  pub metadata : List (List ℕ × List ℕ)
