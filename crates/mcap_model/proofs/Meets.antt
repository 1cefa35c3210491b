-- A record that shows one kind meets its layout.
use Rattle.std.proofs.Common.{ℕ, ◌≤◌, List, arith}
use Rattle.mcap_model.specs.Tops.{Top}
use Rattle.mcap_model.specs.Fields.{SchemaFields, IsSchema, ChannelFields, IsChannel, MessageFields, IsMessage, IsMetadata, ChunkFields, IsChunk, ChunkIndexFields, IsChunkIndex, AttachmentFields, IsAttachment, AttachmentIndexFields, IsAttachmentIndex, StatisticsFields, IsStatistics, IsMetadataIndex, IsSummaryOffset, IsFooter}
use Rattle.mcap_model.specs.Rules.{V6}

pub footer_meets : (t : Top) (summary offsets crc : ℕ) → IsFooter t summary offsets crc → V6 t
footer_meets t summary offsets crc is = record {
  header = λ e. absurd (omega (arith, is.kind, e));
  footer = λ e. (summary, offsets, crc, is);
  schema = λ e. absurd (omega (arith, is.kind, e));
  channel = λ e. absurd (omega (arith, is.kind, e));
  message = λ e. absurd (omega (arith, is.kind, e));
  chunk = λ e. absurd (omega (arith, is.kind, e));
  message_index = λ e. absurd (omega (arith, is.kind, e));
  chunk_index = λ e. absurd (omega (arith, is.kind, e));
  attachment = λ e. absurd (omega (arith, is.kind, e));
  attachment_index = λ e. absurd (omega (arith, is.kind, e));
  statistics = λ e. absurd (omega (arith, is.kind, e));
  metadata = λ e. absurd (omega (arith, is.kind, e));
  metadata_index = λ e. absurd (omega (arith, is.kind, e));
  summary_offset = λ e. absurd (omega (arith, is.kind, e));
  data_end = λ e. absurd (omega (arith, is.kind, e));
}

pub chunk_meets : (t : Top) (f : ChunkFields) → IsChunk t f → V6 t
chunk_meets t f is = record {
  header = λ e. absurd (omega (arith, is.kind, e));
  footer = λ e. absurd (omega (arith, is.kind, e));
  schema = λ e. absurd (omega (arith, is.kind, e));
  channel = λ e. absurd (omega (arith, is.kind, e));
  message = λ e. absurd (omega (arith, is.kind, e));
  chunk = λ e. (f, is);
  message_index = λ e. absurd (omega (arith, is.kind, e));
  chunk_index = λ e. absurd (omega (arith, is.kind, e));
  attachment = λ e. absurd (omega (arith, is.kind, e));
  attachment_index = λ e. absurd (omega (arith, is.kind, e));
  statistics = λ e. absurd (omega (arith, is.kind, e));
  metadata = λ e. absurd (omega (arith, is.kind, e));
  metadata_index = λ e. absurd (omega (arith, is.kind, e));
  summary_offset = λ e. absurd (omega (arith, is.kind, e));
  data_end = λ e. absurd (omega (arith, is.kind, e));
}

pub chunk_index_meets : (t : Top) (f : ChunkIndexFields) → IsChunkIndex t f → V6 t
chunk_index_meets t f is = record {
  header = λ e. absurd (omega (arith, is.kind, e));
  footer = λ e. absurd (omega (arith, is.kind, e));
  schema = λ e. absurd (omega (arith, is.kind, e));
  channel = λ e. absurd (omega (arith, is.kind, e));
  message = λ e. absurd (omega (arith, is.kind, e));
  chunk = λ e. absurd (omega (arith, is.kind, e));
  message_index = λ e. absurd (omega (arith, is.kind, e));
  chunk_index = λ e. (f, is);
  attachment = λ e. absurd (omega (arith, is.kind, e));
  attachment_index = λ e. absurd (omega (arith, is.kind, e));
  statistics = λ e. absurd (omega (arith, is.kind, e));
  metadata = λ e. absurd (omega (arith, is.kind, e));
  metadata_index = λ e. absurd (omega (arith, is.kind, e));
  summary_offset = λ e. absurd (omega (arith, is.kind, e));
  data_end = λ e. absurd (omega (arith, is.kind, e));
}

pub attachment_index_meets : (t : Top) (f : AttachmentIndexFields) → IsAttachmentIndex t f → V6 t
attachment_index_meets t f is = record {
  header = λ e. absurd (omega (arith, is.kind, e));
  footer = λ e. absurd (omega (arith, is.kind, e));
  schema = λ e. absurd (omega (arith, is.kind, e));
  channel = λ e. absurd (omega (arith, is.kind, e));
  message = λ e. absurd (omega (arith, is.kind, e));
  chunk = λ e. absurd (omega (arith, is.kind, e));
  message_index = λ e. absurd (omega (arith, is.kind, e));
  chunk_index = λ e. absurd (omega (arith, is.kind, e));
  attachment = λ e. absurd (omega (arith, is.kind, e));
  attachment_index = λ e. (f, is);
  statistics = λ e. absurd (omega (arith, is.kind, e));
  metadata = λ e. absurd (omega (arith, is.kind, e));
  metadata_index = λ e. absurd (omega (arith, is.kind, e));
  summary_offset = λ e. absurd (omega (arith, is.kind, e));
  data_end = λ e. absurd (omega (arith, is.kind, e));
}

pub statistics_meets : (t : Top) (f : StatisticsFields) → IsStatistics t f → V6 t
statistics_meets t f is = record {
  header = λ e. absurd (omega (arith, is.kind, e));
  footer = λ e. absurd (omega (arith, is.kind, e));
  schema = λ e. absurd (omega (arith, is.kind, e));
  channel = λ e. absurd (omega (arith, is.kind, e));
  message = λ e. absurd (omega (arith, is.kind, e));
  chunk = λ e. absurd (omega (arith, is.kind, e));
  message_index = λ e. absurd (omega (arith, is.kind, e));
  chunk_index = λ e. absurd (omega (arith, is.kind, e));
  attachment = λ e. absurd (omega (arith, is.kind, e));
  attachment_index = λ e. absurd (omega (arith, is.kind, e));
  statistics = λ e. (f, is);
  metadata = λ e. absurd (omega (arith, is.kind, e));
  metadata_index = λ e. absurd (omega (arith, is.kind, e));
  summary_offset = λ e. absurd (omega (arith, is.kind, e));
  data_end = λ e. absurd (omega (arith, is.kind, e));
}

pub metadata_index_meets : (t : Top) (offset size : ℕ) (name : List ℕ) → IsMetadataIndex t offset size name → V6 t
metadata_index_meets t offset size name is = record {
  header = λ e. absurd (omega (arith, is.kind, e));
  footer = λ e. absurd (omega (arith, is.kind, e));
  schema = λ e. absurd (omega (arith, is.kind, e));
  channel = λ e. absurd (omega (arith, is.kind, e));
  message = λ e. absurd (omega (arith, is.kind, e));
  chunk = λ e. absurd (omega (arith, is.kind, e));
  message_index = λ e. absurd (omega (arith, is.kind, e));
  chunk_index = λ e. absurd (omega (arith, is.kind, e));
  attachment = λ e. absurd (omega (arith, is.kind, e));
  attachment_index = λ e. absurd (omega (arith, is.kind, e));
  statistics = λ e. absurd (omega (arith, is.kind, e));
  metadata = λ e. absurd (omega (arith, is.kind, e));
  metadata_index = λ e. (offset, size, name, is);
  summary_offset = λ e. absurd (omega (arith, is.kind, e));
  data_end = λ e. absurd (omega (arith, is.kind, e));
}

pub summary_offset_meets : (t : Top) (op offset size : ℕ) → IsSummaryOffset t op offset size → V6 t
summary_offset_meets t op offset size is = record {
  header = λ e. absurd (omega (arith, is.kind, e));
  footer = λ e. absurd (omega (arith, is.kind, e));
  schema = λ e. absurd (omega (arith, is.kind, e));
  channel = λ e. absurd (omega (arith, is.kind, e));
  message = λ e. absurd (omega (arith, is.kind, e));
  chunk = λ e. absurd (omega (arith, is.kind, e));
  message_index = λ e. absurd (omega (arith, is.kind, e));
  chunk_index = λ e. absurd (omega (arith, is.kind, e));
  attachment = λ e. absurd (omega (arith, is.kind, e));
  attachment_index = λ e. absurd (omega (arith, is.kind, e));
  statistics = λ e. absurd (omega (arith, is.kind, e));
  metadata = λ e. absurd (omega (arith, is.kind, e));
  metadata_index = λ e. absurd (omega (arith, is.kind, e));
  summary_offset = λ e. (op, offset, size, is);
  data_end = λ e. absurd (omega (arith, is.kind, e));
}

pub attachment_meets : (t : Top) (f : AttachmentFields) → IsAttachment t f → V6 t
attachment_meets t f is = record {
  header = λ e. absurd (omega (arith, is.kind, e));
  footer = λ e. absurd (omega (arith, is.kind, e));
  schema = λ e. absurd (omega (arith, is.kind, e));
  channel = λ e. absurd (omega (arith, is.kind, e));
  message = λ e. absurd (omega (arith, is.kind, e));
  chunk = λ e. absurd (omega (arith, is.kind, e));
  message_index = λ e. absurd (omega (arith, is.kind, e));
  chunk_index = λ e. absurd (omega (arith, is.kind, e));
  attachment = λ e. (f, is);
  attachment_index = λ e. absurd (omega (arith, is.kind, e));
  statistics = λ e. absurd (omega (arith, is.kind, e));
  metadata = λ e. absurd (omega (arith, is.kind, e));
  metadata_index = λ e. absurd (omega (arith, is.kind, e));
  summary_offset = λ e. absurd (omega (arith, is.kind, e));
  data_end = λ e. absurd (omega (arith, is.kind, e));
}

pub schema_meets : (t : Top) (id : ℕ) (f : SchemaFields) → IsSchema t id f → V6 t
schema_meets t id f is = record {
  header = λ e. absurd (omega (arith, is.kind, e));
  footer = λ e. absurd (omega (arith, is.kind, e));
  schema = λ e. (id, f, is);
  channel = λ e. absurd (omega (arith, is.kind, e));
  message = λ e. absurd (omega (arith, is.kind, e));
  chunk = λ e. absurd (omega (arith, is.kind, e));
  message_index = λ e. absurd (omega (arith, is.kind, e));
  chunk_index = λ e. absurd (omega (arith, is.kind, e));
  attachment = λ e. absurd (omega (arith, is.kind, e));
  attachment_index = λ e. absurd (omega (arith, is.kind, e));
  statistics = λ e. absurd (omega (arith, is.kind, e));
  metadata = λ e. absurd (omega (arith, is.kind, e));
  metadata_index = λ e. absurd (omega (arith, is.kind, e));
  summary_offset = λ e. absurd (omega (arith, is.kind, e));
  data_end = λ e. absurd (omega (arith, is.kind, e));
}

pub channel_meets : (t : Top) (id : ℕ) (f : ChannelFields) → IsChannel t id f → V6 t
channel_meets t id f is = record {
  header = λ e. absurd (omega (arith, is.kind, e));
  footer = λ e. absurd (omega (arith, is.kind, e));
  schema = λ e. absurd (omega (arith, is.kind, e));
  channel = λ e. (id, f, is);
  message = λ e. absurd (omega (arith, is.kind, e));
  chunk = λ e. absurd (omega (arith, is.kind, e));
  message_index = λ e. absurd (omega (arith, is.kind, e));
  chunk_index = λ e. absurd (omega (arith, is.kind, e));
  attachment = λ e. absurd (omega (arith, is.kind, e));
  attachment_index = λ e. absurd (omega (arith, is.kind, e));
  statistics = λ e. absurd (omega (arith, is.kind, e));
  metadata = λ e. absurd (omega (arith, is.kind, e));
  metadata_index = λ e. absurd (omega (arith, is.kind, e));
  summary_offset = λ e. absurd (omega (arith, is.kind, e));
  data_end = λ e. absurd (omega (arith, is.kind, e));
}

pub message_meets : (t : Top) (id : ℕ) (m : MessageFields) → IsMessage t id m → V6 t
message_meets t id m is = record {
  header = λ e. absurd (omega (arith, is.kind, e));
  footer = λ e. absurd (omega (arith, is.kind, e));
  schema = λ e. absurd (omega (arith, is.kind, e));
  channel = λ e. absurd (omega (arith, is.kind, e));
  message = λ e. (id, m, is);
  chunk = λ e. absurd (omega (arith, is.kind, e));
  message_index = λ e. absurd (omega (arith, is.kind, e));
  chunk_index = λ e. absurd (omega (arith, is.kind, e));
  attachment = λ e. absurd (omega (arith, is.kind, e));
  attachment_index = λ e. absurd (omega (arith, is.kind, e));
  statistics = λ e. absurd (omega (arith, is.kind, e));
  metadata = λ e. absurd (omega (arith, is.kind, e));
  metadata_index = λ e. absurd (omega (arith, is.kind, e));
  summary_offset = λ e. absurd (omega (arith, is.kind, e));
  data_end = λ e. absurd (omega (arith, is.kind, e));
}

pub metadata_meets : (t : Top) (name : List ℕ) (pairs : List (List ℕ × List ℕ)) → IsMetadata t name pairs → V6 t
metadata_meets t name pairs is = record {
  header = λ e. absurd (omega (arith, is.kind, e));
  footer = λ e. absurd (omega (arith, is.kind, e));
  schema = λ e. absurd (omega (arith, is.kind, e));
  channel = λ e. absurd (omega (arith, is.kind, e));
  message = λ e. absurd (omega (arith, is.kind, e));
  chunk = λ e. absurd (omega (arith, is.kind, e));
  message_index = λ e. absurd (omega (arith, is.kind, e));
  chunk_index = λ e. absurd (omega (arith, is.kind, e));
  attachment = λ e. absurd (omega (arith, is.kind, e));
  attachment_index = λ e. absurd (omega (arith, is.kind, e));
  statistics = λ e. absurd (omega (arith, is.kind, e));
  metadata = λ e. (name, pairs, is);
  metadata_index = λ e. absurd (omega (arith, is.kind, e));
  summary_offset = λ e. absurd (omega (arith, is.kind, e));
  data_end = λ e. absurd (omega (arith, is.kind, e));
}

-- and one of an unknown kind, which has none

pub unknown_meets : (t : Top) → 16 ≤ t.op → V6 t
unknown_meets t high = record {
  header = λ e. absurd (omega (arith, high, e));
  footer = λ e. absurd (omega (arith, high, e));
  schema = λ e. absurd (omega (arith, high, e));
  channel = λ e. absurd (omega (arith, high, e));
  message = λ e. absurd (omega (arith, high, e));
  chunk = λ e. absurd (omega (arith, high, e));
  message_index = λ e. absurd (omega (arith, high, e));
  chunk_index = λ e. absurd (omega (arith, high, e));
  attachment = λ e. absurd (omega (arith, high, e));
  attachment_index = λ e. absurd (omega (arith, high, e));
  statistics = λ e. absurd (omega (arith, high, e));
  metadata = λ e. absurd (omega (arith, high, e));
  metadata_index = λ e. absurd (omega (arith, high, e));
  summary_offset = λ e. absurd (omega (arith, high, e));
  data_end = λ e. absurd (omega (arith, high, e));
}
