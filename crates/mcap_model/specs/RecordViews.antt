-- What a judged record shows, as a value of its kind.
use Rattle.std.specs.Prelude.{◌≡◌, ℕ, List}
use Rattle.rec_data.specs.Records.{header_opcode, schema_opcode, channel_opcode, message_opcode, attachment_opcode, metadata_opcode, ShowsHeader, ShowsSchema, ShowsChannel, ShowsMessage, ShowsAttachment, ShowsMetadata}
use Rattle.rec_data.specs.Parsed.{header_fields, schema_fields, channel_fields, message_fields, attachment_fields, metadata_fields}
use Rattle.rec_index.specs.Records.{chunk_opcode, message_index_opcode, ShowsChunk, ShowsMessageIndex}
use Rattle.rec_index.specs.Parsed.{chunk_fields}
use Rattle.mcap_model.specs.declared.views.RecordView.{RecordView}
use Rattle.mcap_model.specs.declared.views.RecordView.TheVariants as kinds

-- a record of none of the kinds that are looked into
pub record IsOtherKind (op : ℕ) : Type 0 where
  pub header : op ≡ header_opcode → ⊥
  pub schema : op ≡ schema_opcode → ⊥
  pub channel : op ≡ channel_opcode → ⊥
  pub message : op ≡ message_opcode → ⊥
  pub chunk : op ≡ chunk_opcode → ⊥
  pub message_index : op ≡ message_index_opcode → ⊥
  pub attachment : op ≡ attachment_opcode → ⊥
  pub metadata : op ≡ metadata_opcode → ⊥

-- a record of that opcode shows this
abbrev pub IsView : ℕ → List ℕ → RecordView → Type 0
IsView op content (kinds.Header h) = (op ≡ header_opcode) × ShowsHeader content (header_fields h)
IsView op content (kinds.Schema s) = (op ≡ schema_opcode) × ShowsSchema content s.id (schema_fields s)
IsView op content (kinds.Channel c) = (op ≡ channel_opcode) × ShowsChannel content c.id (channel_fields c)
IsView op content (kinds.Message m) = (op ≡ message_opcode) × ShowsMessage content m.channel_id (message_fields m)
IsView op content (kinds.Chunk c) = (op ≡ chunk_opcode) × ShowsChunk content (chunk_fields c)
IsView op content (kinds.MessageIndex i) =
    (op ≡ message_index_opcode) × ShowsMessageIndex content i.channel_id i.entries
IsView op content (kinds.Attachment a) = (op ≡ attachment_opcode) × ShowsAttachment content (attachment_fields a)
IsView op content (kinds.Metadata m) = (op ≡ metadata_opcode) × ShowsMetadata content (metadata_fields m)
IsView op content kinds.Other = IsOtherKind op
