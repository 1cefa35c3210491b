-- What the records show (MCAP specification, "Records").
use Rattle.std.specs.Prelude.{◌≡◌, ℕ, List, IsPermutation}
pub use Rattle.rec_data.specs.Fields.{SchemaFields, ChannelFields, MessageFields, AttachmentFields}
use Rattle.rec_data.specs.Records.{ShowsHeader, ShowsFooter, ShowsSchema, ShowsChannel, ShowsMessage, ShowsAttachment, ShowsMetadata, ShowsDataEnd, header_opcode, footer_opcode, schema_opcode, channel_opcode, message_opcode, attachment_opcode, metadata_opcode, data_end_opcode}
pub use Rattle.rec_index.specs.Fields.{ChunkFields, ChunkIndexFields, AttachmentIndexFields, StatisticsFields}
use Rattle.rec_index.specs.Records.{ShowsChunk, ShowsMessageIndex, ShowsChunkIndex, ShowsAttachmentIndex, ShowsStatistics, ShowsMetadataIndex, ShowsSummaryOffset, chunk_opcode, message_index_opcode, chunk_index_opcode, attachment_index_opcode, statistics_opcode, metadata_index_opcode, summary_offset_opcode}
use Rattle.mcap_model.specs.Tops.{Top}

pub record IsHeader (t : Top) : Type 0 where
  pub kind : t.op ≡ header_opcode
  pub profile : List ℕ
  pub library : List ℕ
  pub layout : ShowsHeader t.content (record { profile = profile; library = library })

pub record IsDataEnd (t : Top) : Type 0 where
  pub kind : t.op ≡ data_end_opcode
  pub crc : ℕ
  pub layout : ShowsDataEnd t.content crc

-- ---- schemas, channels and messages

-- the record shows a Schema of that id, which isn't 0
pub record IsSchema (t : Top) (id : ℕ) (f : SchemaFields) : Type 0 where
  pub kind : t.op ≡ schema_opcode
  pub layout : ShowsSchema t.content id f
  pub some : id ≡ 0 → ⊥

-- equal fields: the metadata are compared as maps
pub record SameChannel (f g : ChannelFields) : Type 0 where
  pub schema : f.schema ≡ g.schema
  pub topic : f.topic ≡ g.topic
  pub encoding : f.encoding ≡ g.encoding
  pub metadata : IsPermutation f.metadata g.metadata

-- the record shows a Channel of that id
pub record IsChannel (t : Top) (id : ℕ) (f : ChannelFields) : Type 0 where
  pub kind : t.op ≡ channel_opcode
  pub layout : ShowsChannel t.content id f

-- the record shows a Message on the channel of that id
pub record IsMessage (t : Top) (channel : ℕ) (m : MessageFields) : Type 0 where
  pub kind : t.op ≡ message_opcode
  pub layout : ShowsMessage t.content channel m

-- ---- chunks and their indexes

pub record IsChunk (t : Top) (f : ChunkFields) : Type 0 where
  pub kind : t.op ≡ chunk_opcode
  pub layout : ShowsChunk t.content f

-- the record shows a Message Index of that channel, with these log times and offsets
pub record IsMessageIndex (t : Top) (channel : ℕ) (entries : List (ℕ × ℕ)) : Type 0 where
  pub kind : t.op ≡ message_index_opcode
  pub layout : ShowsMessageIndex t.content channel entries

pub record IsChunkIndex (t : Top) (f : ChunkIndexFields) : Type 0 where
  pub kind : t.op ≡ chunk_index_opcode
  pub layout : ShowsChunkIndex t.content f

-- ---- attachments and metadata, and their indexes

pub record IsAttachment (t : Top) (f : AttachmentFields) : Type 0 where
  pub kind : t.op ≡ attachment_opcode
  pub layout : ShowsAttachment t.content f

pub record IsMetadata (t : Top) (name : List ℕ) (metadata : List (List ℕ × List ℕ)) : Type 0 where
  pub kind : t.op ≡ metadata_opcode
  pub layout : ShowsMetadata t.content (record { name = name; metadata = metadata })

pub record IsAttachmentIndex (t : Top) (f : AttachmentIndexFields) : Type 0 where
  pub kind : t.op ≡ attachment_index_opcode
  pub layout : ShowsAttachmentIndex t.content f

pub record IsMetadataIndex (t : Top) (offset size : ℕ) (name : List ℕ) : Type 0 where
  pub kind : t.op ≡ metadata_index_opcode
  pub layout : ShowsMetadataIndex t.content (record { offset = offset; size = size; name = name })

-- ---- the rest of a summary

pub record IsStatistics (t : Top) (f : StatisticsFields) : Type 0 where
  pub kind : t.op ≡ statistics_opcode
  pub layout : ShowsStatistics t.content f

-- the records of one opcode stand at that offset, in so many bytes
pub record IsSummaryOffset (t : Top) (op offset size : ℕ) : Type 0 where
  pub kind : t.op ≡ summary_offset_opcode
  pub layout : ShowsSummaryOffset t.content (record { op = op; offset = offset; size = size })

pub record IsFooter (t : Top) (summary offsets crc : ℕ) : Type 0 where
  pub kind : t.op ≡ footer_opcode
  pub layout : ShowsFooter t.content (record
      { summary_start = summary; summary_offset_start = offsets; summary_crc = crc })
