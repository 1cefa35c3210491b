-- The fields of the records as they are parsed.
use Rattle.rec_data.specs.declared.attachment.Attachment.{Attachment}
use Rattle.rec_data.specs.declared.channel.Channel.{Channel}
use Rattle.rec_data.specs.declared.footer.Footer.{Footer}
use Rattle.rec_data.specs.declared.header.Header.{Header}
use Rattle.rec_data.specs.declared.message.Message.{Message}
use Rattle.rec_data.specs.declared.metadata.Metadata.{Metadata}
use Rattle.rec_data.specs.declared.schema.Schema.{Schema}
use Rattle.rec_data.specs.Fields.{HeaderFields, FooterFields, SchemaFields, ChannelFields, MessageFields, AttachmentFields, MetadataFields}

abbrev pub header_fields : Header → HeaderFields
header_fields h = record { profile = h.profile.now; library = h.library.now }

abbrev pub footer_fields : Footer → FooterFields
footer_fields f = record {
  summary_start = f.summary_start;
  summary_offset_start = f.summary_offset_start;
  summary_crc = f.summary_crc;
}

abbrev pub schema_fields : Schema → SchemaFields
schema_fields s = record { name = s.name.now; encoding = s.encoding.now; payload = s.payload.now }

abbrev pub channel_fields : Channel → ChannelFields
channel_fields c = record {
  schema = c.schema_id;
  topic = c.topic.now;
  encoding = c.message_encoding.now;
  metadata = c.metadata;
}

abbrev pub message_fields : Message → MessageFields
message_fields m = record {
  sequence = m.sequence;
  log_time = m.log_time;
  publish_time = m.publish_time;
  payload = m.payload.now;
}

abbrev pub metadata_fields : Metadata → MetadataFields
metadata_fields m = record { name = m.name.now; metadata = m.metadata }

abbrev pub attachment_fields : Attachment → AttachmentFields
attachment_fields a = record {
  log_time = a.log_time;
  create_time = a.create_time;
  name = a.name.now;
  media_type = a.media_type.now;
  payload = a.payload.now;
  crc = a.crc;
}
