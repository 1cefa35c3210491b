-- The contents of the records.
use Rattle.std.specs.Prelude.{◌≡◌, ℕ, ◌+◌, List, [], ◌∷◌, length}
use Rattle.mcap_wire.specs.Layout.{NumberAt}
use Rattle.mcap_wire.specs.Contents.{Kind, a_number, a_text, some_bytes, a_text_map, Values, row, RowBegins, ShowsRow}
use Rattle.rec_data.specs.Fields.{HeaderFields, FooterFields, SchemaFields, ChannelFields, MessageFields, AttachmentFields, MetadataFields}

-- ---- the opcodes

abbrev pub header_opcode : ℕ
header_opcode = 1

abbrev pub footer_opcode : ℕ
footer_opcode = 2

abbrev pub schema_opcode : ℕ
schema_opcode = 3

abbrev pub channel_opcode : ℕ
channel_opcode = 4

abbrev pub message_opcode : ℕ
message_opcode = 5

abbrev pub attachment_opcode : ℕ
attachment_opcode = 9

abbrev pub metadata_opcode : ℕ
metadata_opcode = 12

abbrev pub data_end_opcode : ℕ
data_end_opcode = 15

-- the first of the opcodes that applications give to records of their own
abbrev pub application_opcode : ℕ
application_opcode = 128

-- ---- Header

abbrev pub header_kinds : List Kind
header_kinds = a_text ∷ a_text ∷ []

abbrev pub header_values : HeaderFields → Values header_kinds
header_values f = (f.profile, (f.library, tt))

-- the content of a Header
abbrev pub header_text : HeaderFields → List ℕ
header_text f = row header_kinds (header_values f) []

-- a content shows these fields, whatever follows them
abbrev pub ShowsHeader : List ℕ → HeaderFields → Type 0
ShowsHeader content f = ShowsRow header_kinds content (header_values f)

-- ---- Footer

abbrev pub footer_kinds : List Kind
footer_kinds = a_number 8 ∷ a_number 8 ∷ a_number 4 ∷ []

abbrev pub footer_values : FooterFields → Values footer_kinds
footer_values f = (f.summary_start, (f.summary_offset_start, (f.summary_crc, tt)))

-- the content of a Footer
abbrev pub footer_text : FooterFields → List ℕ
footer_text f = row footer_kinds (footer_values f) []

-- a content is these fields, with nothing behind them
abbrev pub ShowsFooter : List ℕ → FooterFields → Type 0
ShowsFooter content f = RowBegins footer_kinds content (footer_values f) []

-- ---- Data End

abbrev pub data_end_kinds : List Kind
data_end_kinds = a_number 4 ∷ []

abbrev pub data_end_values : ℕ → Values data_end_kinds
data_end_values data_section_crc = (data_section_crc, tt)

-- the content of a Data End: the CRC of the data section
abbrev pub data_end_text : ℕ → List ℕ
data_end_text data_section_crc = row data_end_kinds (data_end_values data_section_crc) []

-- a content shows this field, whatever follows it
abbrev pub ShowsDataEnd : List ℕ → ℕ → Type 0
ShowsDataEnd content data_section_crc = ShowsRow data_end_kinds content (data_end_values data_section_crc)

-- ---- Schema

abbrev pub schema_kinds : List Kind
schema_kinds = a_number 2 ∷ a_text ∷ a_text ∷ some_bytes 4 ∷ []

abbrev pub schema_values : ℕ → SchemaFields → Values schema_kinds
schema_values id f = (id, (f.name, (f.encoding, (f.payload, tt))))

-- the content of a Schema: its id, and its fields
abbrev pub schema_text : ℕ → SchemaFields → List ℕ
schema_text id f = row schema_kinds (schema_values id f) []

-- a content shows this id and these fields, whatever follows them
abbrev pub ShowsSchema : List ℕ → ℕ → SchemaFields → Type 0
ShowsSchema content id f = ShowsRow schema_kinds content (schema_values id f)

-- ---- Channel

abbrev pub channel_kinds : List Kind
channel_kinds = a_number 2 ∷ a_number 2 ∷ a_text ∷ a_text ∷ a_text_map ∷ []

abbrev pub channel_values : ℕ → ChannelFields → Values channel_kinds
channel_values id f = (id, (f.schema, (f.topic, (f.encoding, (f.metadata, tt)))))

-- the content of a Channel: its id, and its fields
abbrev pub channel_text : ℕ → ChannelFields → List ℕ
channel_text id f = row channel_kinds (channel_values id f) []

-- a content shows this id and these fields, whatever follows them
abbrev pub ShowsChannel : List ℕ → ℕ → ChannelFields → Type 0
ShowsChannel content id f = ShowsRow channel_kinds content (channel_values id f)

-- ---- Metadata

abbrev pub metadata_kinds : List Kind
metadata_kinds = a_text ∷ a_text_map ∷ []

abbrev pub metadata_values : MetadataFields → Values metadata_kinds
metadata_values f = (f.name, (f.metadata, tt))

-- a content shows these fields, whatever follows them
abbrev pub ShowsMetadata : List ℕ → MetadataFields → Type 0
ShowsMetadata content f = ShowsRow metadata_kinds content (metadata_values f)

-- ---- Message

-- the fields of a Message in front of its data
abbrev pub message_kinds : List Kind
message_kinds = a_number 2 ∷ a_number 4 ∷ a_number 8 ∷ a_number 8 ∷ []

abbrev pub message_values : ℕ → MessageFields → Values message_kinds
message_values channel_id f = (channel_id, (f.sequence, (f.log_time, (f.publish_time, tt))))

-- the content of a Message: its channel's id and its fields, and all that follows them is its data
abbrev pub message_text : ℕ → MessageFields → List ℕ
message_text channel_id f = row message_kinds (message_values channel_id f) f.payload

-- a content is this channel's id and these fields
abbrev pub ShowsMessage : List ℕ → ℕ → MessageFields → Type 0
ShowsMessage content channel_id f = RowBegins message_kinds content (message_values channel_id f) f.payload

-- ---- Attachment

abbrev pub attachment_kinds : List Kind
attachment_kinds = a_number 8 ∷ a_number 8 ∷ a_text ∷ a_text ∷ some_bytes 8 ∷ a_number 4 ∷ []

abbrev pub attachment_values : AttachmentFields → Values attachment_kinds
attachment_values f = (f.log_time, (f.create_time, (f.name, (f.media_type, (f.payload, (f.crc, tt))))))

-- a content shows these fields, whatever follows them
abbrev pub ShowsAttachment : List ℕ → AttachmentFields → Type 0
ShowsAttachment content f = ShowsRow attachment_kinds content (attachment_values f)

-- a content shows an Attachment whose CRC stands at this place, behind its other fields
pub record CrcStandsAt (content : List ℕ) (place : ℕ) (f : AttachmentFields) : Type 0 where
  pub shows : ShowsAttachment content f
  pub behind : place ≡ 32 + length f.name + length f.media_type + length f.payload
  pub stands : NumberAt 4 content place f.crc (place + 4)
