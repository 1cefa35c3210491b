-- Why the content of a record can't be read; and what only writers and readers speak of.
use Rattle.std.specs.Prelude.{◌≡◌, ◌⊎◌, ℕ, ◌<◌, List, [], length}
use Rattle.mcap_wire.specs.declared.faults.Why.{Why}
use Rattle.mcap_wire.specs.declared.faults.Why.TheVariants.{BadLength}
use Rattle.mcap_wire.specs.Contents.{row}
use Rattle.mcap_wire.specs.ContentReading.{Fails}
use Rattle.rec_data.specs.Fields.{AttachmentFields, MetadataFields}
use Rattle.rec_data.specs.Records.{header_kinds, footer_kinds, data_end_kinds, schema_kinds, channel_kinds, metadata_kinds, metadata_values, message_kinds, attachment_kinds, attachment_values, CrcStandsAt}

-- ---- Header

-- the first of its fields that can't be read
abbrev pub HeaderFails : List ℕ → ℕ → Why → Type 0
HeaderFails content field why = Fails header_kinds content field why

-- ---- Footer

-- the first of its fields that can't be read, or, at field 4, bytes behind all three
abbrev pub FooterFails : List ℕ → ℕ → Why → Type 0
FooterFails content field why = Fails footer_kinds content field why
    ⊎ ((field ≡ 4) × (20 < length content) × (why ≡ BadLength))

-- ---- Data End

-- the number is cut short
abbrev pub DataEndFails : List ℕ → ℕ → Why → Type 0
DataEndFails content field why = Fails data_end_kinds content field why

-- ---- Schema

-- the first of its fields that can't be read
abbrev pub SchemaFails : List ℕ → ℕ → Why → Type 0
SchemaFails content field why = Fails schema_kinds content field why

-- ---- Channel

-- the first of its fields that can't be read
abbrev pub ChannelFails : List ℕ → ℕ → Why → Type 0
ChannelFails content field why = Fails channel_kinds content field why

-- ---- Metadata

-- the content of a Metadata
abbrev pub metadata_text : MetadataFields → List ℕ
metadata_text f = row metadata_kinds (metadata_values f) []

-- the first of its fields that can't be read
abbrev pub MetadataFails : List ℕ → ℕ → Why → Type 0
MetadataFails content field why = Fails metadata_kinds content field why

-- ---- Message

-- the first of its fields that is cut short
abbrev pub MessageFails : List ℕ → ℕ → Why → Type 0
MessageFails content field why = Fails message_kinds content field why

-- ---- Attachment

-- the content of an Attachment
abbrev pub attachment_text : AttachmentFields → List ℕ
attachment_text f = row attachment_kinds (attachment_values f) []

-- the first of its fields that can't be read
abbrev pub AttachmentFails : List ℕ → ℕ → Why → Type 0
AttachmentFails content field why = Fails attachment_kinds content field why

-- a content shows some Attachment whose CRC stands at this place
abbrev pub HasCrcAt : List ℕ → ℕ → Type 0
HasCrcAt content place = (f : AttachmentFields) × CrcStandsAt content place f
