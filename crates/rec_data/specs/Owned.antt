-- Records that own what they hold.
use Rattle.std.specs.Prelude.{◌≡◌, ◌⊎◌, ◌≤◌, ℕ, List}
use Rattle.mcap_wire.specs.Contents.{AllFit}
use Rattle.mcap_wire.specs.Layout.{framed}
use Rattle.rec_data.specs.declared.schema.SchemaDef.{SchemaDef}
use Rattle.rec_data.specs.declared.owned.Rec.{Rec}
use Rattle.rec_data.specs.declared.owned.Rec.TheVariants.{Schema, Channel, Message, Extra}
use Rattle.rec_data.specs.Fields.{SchemaFields, AttachmentFields, MetadataFields}
use Rattle.rec_data.specs.Records.{schema_opcode, schema_kinds, schema_values, schema_text, ShowsSchema, channel_opcode, channel_kinds, channel_values, channel_text, ShowsChannel, message_opcode, message_kinds, message_values, message_text, ShowsMessage, attachment_opcode, ShowsAttachment, metadata_opcode, ShowsMetadata, application_opcode}

abbrev pub def_fields : SchemaDef → SchemaFields
def_fields s = record { name = s.name; encoding = s.encoding; payload = s.payload }

abbrev pub rec_opcode : Rec → ℕ
rec_opcode (Schema id schema) = schema_opcode
rec_opcode (Channel id schema topic encoding metadata) = channel_opcode
rec_opcode (Message channel_id sequence log_time publish_time payload) = message_opcode
rec_opcode (Extra op content) = op

-- the content of a record
abbrev pub rec_text : Rec → List ℕ
rec_text (Schema id schema) = schema_text id (def_fields schema)
rec_text (Channel id schema topic encoding metadata) =
    channel_text id (record { schema = schema; topic = topic; encoding = encoding; metadata = metadata })
rec_text (Message channel_id sequence log_time publish_time payload) =
    message_text channel_id (record
    { sequence = sequence; log_time = log_time; publish_time = publish_time; payload = payload })
rec_text (Extra op content) = content

-- the whole record
abbrev pub rec_bytes : Rec → List ℕ
rec_bytes r = framed (rec_opcode r) (rec_text r)

-- What may stand beside Schemas, Channels and Messages: an Attachment or a Metadata, whose content meets its layout, or
-- a record of an application, whatever its content.
abbrev pub IsExtraContent : ℕ → List ℕ → Type 0
IsExtraContent op content = ((op ≡ attachment_opcode) × (f : AttachmentFields) × ShowsAttachment content f)
    ⊎ (((op ≡ metadata_opcode) × (f : MetadataFields) × ShowsMetadata content f) ⊎ (application_opcode ≤ op))

-- Each number and length of the record fits its field, its texts are UTF-8 and the keys of its map differ. An Attachment's
-- or a Metadata's content meets its layout.
abbrev pub RecFits : Rec → Type 0
RecFits (Schema id schema) = AllFit schema_kinds (schema_values id (def_fields schema))
RecFits (Channel id schema topic encoding metadata) =
    AllFit channel_kinds (channel_values id (record
    { schema = schema; topic = topic; encoding = encoding; metadata = metadata }))
RecFits (Message channel_id sequence log_time publish_time payload) =
    AllFit message_kinds (message_values channel_id (record
    { sequence = sequence; log_time = log_time; publish_time = publish_time; payload = payload }))
RecFits (Extra op content) = IsExtraContent op content

-- a content shows this record, whatever may follow its fields; an extra is the whole content
abbrev pub ShowsRec : ℕ → List ℕ → Rec → Type 0
ShowsRec op content (Schema id schema) = (op ≡ schema_opcode) × ShowsSchema content id (def_fields schema)
ShowsRec op content (Channel id schema topic encoding metadata) = (op ≡ channel_opcode)
    × ShowsChannel content id (record { schema = schema; topic = topic; encoding = encoding; metadata = metadata })
ShowsRec op content (Message channel_id sequence log_time publish_time payload) = (op ≡ message_opcode)
    × ShowsMessage content channel_id (record
    { sequence = sequence; log_time = log_time; publish_time = publish_time; payload = payload })
ShowsRec op content (Extra kind bytes) = (op ≡ kind) × (content ≡ bytes) × IsExtraContent kind bytes
