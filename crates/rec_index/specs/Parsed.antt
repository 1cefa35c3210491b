-- The fields of the records as they are parsed.
use Rattle.rec_index.specs.declared.attachment_index.AttachmentIndex.{AttachmentIndex}
use Rattle.rec_index.specs.declared.chunk.Chunk.{Chunk}
use Rattle.rec_index.specs.declared.chunk_index.ChunkIndex.{ChunkIndex}
use Rattle.rec_index.specs.declared.metadata_index.MetadataIndex.{MetadataIndex}
use Rattle.rec_index.specs.declared.summary_statistics.Statistics.{Statistics}
use Rattle.rec_index.specs.declared.summary_offset.SummaryOffset.{SummaryOffset}
use Rattle.rec_index.specs.Fields.{AttachmentIndexFields, ChunkFields, ChunkIndexFields, MetadataIndexFields, StatisticsFields, SummaryOffsetFields}

abbrev pub summary_offset_fields : SummaryOffset → SummaryOffsetFields
summary_offset_fields s = record { op = s.group_opcode; offset = s.group_start; size = s.group_length }

abbrev pub metadata_index_fields : MetadataIndex → MetadataIndexFields
metadata_index_fields m = record { offset = m.offset; size = m.length; name = m.name.now }

abbrev pub attachment_index_fields : AttachmentIndex → AttachmentIndexFields
attachment_index_fields a = record {
  offset = a.offset;
  size = a.length;
  log_time = a.log_time;
  create_time = a.create_time;
  payload_size = a.data_size;
  name = a.name.now;
  media_type = a.media_type.now;
}

abbrev pub chunk_fields : Chunk → ChunkFields
chunk_fields c = record {
  start = c.message_start_time;
  end = c.message_end_time;
  size = c.uncompressed_size;
  crc = c.uncompressed_crc;
  compression = c.compression.now;
  records = c.records.now;
}

abbrev pub chunk_index_fields : ChunkIndex → ChunkIndexFields
chunk_index_fields c = record {
  start = c.message_start_time;
  end = c.message_end_time;
  offset = c.chunk_start_offset;
  size = c.chunk_length;
  indexes = c.message_index_offsets;
  indexes_size = c.message_index_length;
  compression = c.compression.now;
  compressed = c.compressed_size;
  uncompressed = c.uncompressed_size;
}

abbrev pub statistics_fields : Statistics → StatisticsFields
statistics_fields s = record {
  messages = s.message_count;
  schemas = s.schema_count;
  channels = s.channel_count;
  attachments = s.attachment_count;
  metadata = s.metadata_count;
  chunks = s.chunk_count;
  start = s.message_start_time;
  end = s.message_end_time;
  counts = s.channel_message_counts;
}
