-- An index shows its fields in one way.
use Rattle.std.proofs.Common.{◌≡◌, ℕ, List, ap}
use Rattle.mcap_wire.specs.Contents.{Values}
use Rattle.mcap_wire.proofs.Contents.{shows_decided}
use Rattle.rec_index.specs.Fields.{ChunkIndexFields, AttachmentIndexFields, MetadataIndexFields, StatisticsFields, SummaryOffsetFields}
use Rattle.rec_index.specs.Records.{message_index_kinds, message_index_values, chunk_index_kinds, chunk_index_values, attachment_index_kinds, attachment_index_values, metadata_index_kinds, metadata_index_values, statistics_kinds, statistics_values, summary_offset_kinds, summary_offset_values}
use Rattle.mcap_model.specs.Tops.{Top}
use Rattle.mcap_model.specs.Fields.{IsMessageIndex, IsChunkIndex, IsAttachmentIndex, IsMetadataIndex, IsStatistics, IsSummaryOffset}

pub message_index_once : (t : Top) (a b : ℕ) (e f : List (ℕ × ℕ)) → IsMessageIndex t a e → IsMessageIndex t b f → (a ≡ b) × (e ≡ f)
message_index_once t a b e f one other =
    let same = shows_decided message_index_kinds t.content (message_index_values a e) (message_index_values b f) one.layout other.layout in
    (cc same, cc same)

pub chunk_index_once : (t : Top) (f g : ChunkIndexFields) → IsChunkIndex t f → IsChunkIndex t g → f ≡ g
chunk_index_once t f g one other = ap of (shows_decided chunk_index_kinds t.content (chunk_index_values f) (chunk_index_values g) one.layout other.layout)
  where
    of : Values chunk_index_kinds → ChunkIndexFields
    of (start, (end, (offset, (size, (indexes, (indexes_size, (compression, (compressed, (uncompressed, _))))))))) = record {
      start = start;
      end = end;
      offset = offset;
      size = size;
      indexes = indexes;
      indexes_size = indexes_size;
      compression = compression;
      compressed = compressed;
      uncompressed = uncompressed;
    }

pub attachment_index_once : (t : Top) (f g : AttachmentIndexFields) → IsAttachmentIndex t f → IsAttachmentIndex t g → f ≡ g
attachment_index_once t f g one other = ap of (shows_decided attachment_index_kinds t.content (attachment_index_values f) (attachment_index_values g) one.layout other.layout)
  where
    of : Values attachment_index_kinds → AttachmentIndexFields
    of (offset, (size, (log_time, (create_time, (payload_size, (name, (media_type, _))))))) = record {
      offset = offset;
      size = size;
      log_time = log_time;
      create_time = create_time;
      payload_size = payload_size;
      name = name;
      media_type = media_type;
    }

abbrev pub metadata_index : ℕ → ℕ → List ℕ → MetadataIndexFields
metadata_index offset size name = record { offset = offset; size = size; name = name }

pub metadata_index_once : (t : Top) (offset size : ℕ) (name : List ℕ) (other_offset other_size : ℕ) (other_name : List ℕ) → IsMetadataIndex t offset size name → IsMetadataIndex t other_offset other_size other_name
    → metadata_index offset size name ≡ metadata_index other_offset other_size other_name
metadata_index_once t offset size name other_offset other_size other_name one other =
    ap of (shows_decided metadata_index_kinds t.content (metadata_index_values (metadata_index offset size name)) (metadata_index_values (metadata_index other_offset other_size other_name)) one.layout other.layout)
  where
    of : Values metadata_index_kinds → MetadataIndexFields
    of (offset, (size, (name, _))) = metadata_index offset size name

pub statistics_once : (t : Top) (f g : StatisticsFields) → IsStatistics t f → IsStatistics t g → f ≡ g
statistics_once t f g one other = ap of (shows_decided statistics_kinds t.content (statistics_values f) (statistics_values g) one.layout other.layout)
  where
    of : Values statistics_kinds → StatisticsFields
    of (messages, (schemas, (channels, (attachments, (metadata, (chunks, (start, (end, (counts, _))))))))) = record {
      messages = messages;
      schemas = schemas;
      channels = channels;
      attachments = attachments;
      metadata = metadata;
      chunks = chunks;
      start = start;
      end = end;
      counts = counts;
    }

abbrev pub summary_offset : ℕ → ℕ → ℕ → SummaryOffsetFields
summary_offset op offset size = record { op = op; offset = offset; size = size }

pub summary_offset_once : (t : Top) (op offset size other_op other_offset other_size : ℕ) → IsSummaryOffset t op offset size → IsSummaryOffset t other_op other_offset other_size → summary_offset op offset size ≡ summary_offset other_op other_offset other_size
summary_offset_once t op offset size other_op other_offset other_size one other =
    ap of (shows_decided summary_offset_kinds t.content (summary_offset_values (summary_offset op offset size)) (summary_offset_values (summary_offset other_op other_offset other_size)) one.layout other.layout)
  where
    of : Values summary_offset_kinds → SummaryOffsetFields
    of (op, (offset, (size, _))) = summary_offset op offset size
