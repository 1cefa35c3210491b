-- What is indexed of an Attachment.
use Rattle.std.specs.Prelude.{ℕ, length}
use Rattle.rec_data.specs.Fields.{AttachmentFields}
use Rattle.rec_index.specs.Fields.{AttachmentIndexFields}
use Rattle.mcap_model.specs.Tops.{Top, top_bytes}

-- the fields of the Attachment Index of an Attachment that stands at that offset
abbrev pub indexed_attachment : ℕ → Top → AttachmentFields → AttachmentIndexFields
indexed_attachment offset t f = record {
  offset = offset;
  size = length (top_bytes t);
  log_time = f.log_time;
  create_time = f.create_time;
  payload_size = length f.payload;
  name = f.name;
  media_type = f.media_type;
}
