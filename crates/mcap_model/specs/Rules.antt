-- The rules of the format that a reading of the records up to the Data End uses. Each says of one record, behind those
-- before it, that it keeps the rule. So a rule holds of a file where it holds of each record, and fails at the offset of
-- one that breaks it. What is wrong with a record inside a chunk is said of the chunk.
use Rattle.std.specs.Prelude.{◌≡◌, ◌⊎◌, length, ℕ, ◌≤◌, List, [], ◌∷◌, ◌++◌, take, ◌||◌, ◌==◌, Bool, true, nat_le}
use Rattle.mcap_crc.specs.Remainder.{remainder}
use Rattle.mcap_model.specs.Fields.{ChunkFields, IsHeader, IsDataEnd, SchemaFields, IsSchema, ChannelFields, SameChannel, IsChannel, MessageFields, IsMessage, IsChunk, IsMessageIndex, ChunkIndexFields, IsChunkIndex, AttachmentFields, IsAttachment, IsMetadata, AttachmentIndexFields, IsAttachmentIndex, IsMetadataIndex, StatisticsFields, IsStatistics, IsSummaryOffset, IsFooter}
use Rattle.std.specs.List.{list_any}
use Rattle.mcap_wire.specs.Layout.{magic}
use Rattle.rec_data.specs.Records.{CrcStandsAt, header_opcode, footer_opcode, schema_opcode, channel_opcode, message_opcode, attachment_opcode, metadata_opcode, data_end_opcode}
use Rattle.rec_index.specs.Records.{chunk_opcode, message_index_opcode, chunk_index_opcode, attachment_index_opcode, statistics_opcode, metadata_index_opcode, summary_offset_opcode}
use Rattle.mcap_model.specs.Places.{At, Each}
use Rattle.mcap_model.specs.Tops.{Top, spelled, records_in, flattened, flat}
use Rattle.mcap_model.specs.declared.rules.Rule.{Rule}
use Rattle.mcap_model.specs.declared.rules.Rule.TheVariants as rules

-- ---- V1: the file begins with the magic

abbrev pub V1 : List ℕ → Type 0
V1 bytes = (rest : List ℕ) × (bytes ≡ magic ++ rest)

-- ---- V3: the first record is a Header

abbrev pub V3 : List Top → Top → Type 0
V3 [] t = IsHeader t
V3 (x ∷ xs) t = Unit {0}

-- ---- V5, up to the first Data End: no opcode is 0; behind the Header stand only Schemas, Channels, Messages, Chunks,
-- Message Indexes, Attachments, Metadata, unknown records and the Data End

abbrev pub HasDataEnd : List Top → Type 0
HasDataEnd [] = ⊥
HasDataEnd (t ∷ ts) = (t.op ≡ data_end_opcode) ⊎ HasDataEnd ts

-- The rules know no opcode from 16 on: MCAP reserves those up to 127, and leaves the others to applications.
abbrev pub is_unknown : ℕ → Bool
is_unknown op = nat_le 16 op

abbrev pub stands_in_section : ℕ → Bool
stands_in_section op = list_any (λ kind. kind == op) (schema_opcode ∷ channel_opcode ∷ message_opcode ∷ chunk_opcode
    ∷ message_index_opcode ∷ attachment_opcode ∷ metadata_opcode ∷ data_end_opcode ∷ []) || is_unknown op

abbrev pub V5 : List Top → Top → Type 0
V5 [] t = t.op ≡ 0 → ⊥
V5 (x ∷ xs) t = (t.op ≡ 0 → ⊥) × (HasDataEnd (x ∷ xs) ⊎ (stands_in_section t.op ≡ true))

-- ---- V6: a known record's content meets its layout

pub record V6 (t : Top) : Type 0 where
  pub header : t.op ≡ header_opcode → IsHeader t
  pub footer : t.op ≡ footer_opcode → (summary offsets crc : ℕ) × IsFooter t summary offsets crc
  pub schema : t.op ≡ schema_opcode → (id : ℕ) × (f : SchemaFields) × IsSchema t id f
  pub channel : t.op ≡ channel_opcode → (id : ℕ) × (f : ChannelFields) × IsChannel t id f
  pub message : t.op ≡ message_opcode → (channel : ℕ) × (m : MessageFields) × IsMessage t channel m
  pub chunk : t.op ≡ chunk_opcode → (f : ChunkFields) × IsChunk t f
  pub message_index : t.op ≡ message_index_opcode
      → (channel : ℕ) × (entries : List (ℕ × ℕ)) × IsMessageIndex t channel entries
  pub chunk_index : t.op ≡ chunk_index_opcode → (f : ChunkIndexFields) × IsChunkIndex t f
  pub attachment : t.op ≡ attachment_opcode → (f : AttachmentFields) × IsAttachment t f
  pub attachment_index : t.op ≡ attachment_index_opcode → (f : AttachmentIndexFields) × IsAttachmentIndex t f
  pub statistics : t.op ≡ statistics_opcode → (f : StatisticsFields) × IsStatistics t f
  pub metadata : t.op ≡ metadata_opcode → (name : List ℕ) × (pairs : List (List ℕ × List ℕ)) × IsMetadata t name pairs
  pub metadata_index : t.op ≡ metadata_index_opcode
      → (offset size : ℕ) × (name : List ℕ) × IsMetadataIndex t offset size name
  pub summary_offset : t.op ≡ summary_offset_opcode → (op offset size : ℕ) × IsSummaryOffset t op offset size
  pub data_end : t.op ≡ data_end_opcode → IsDataEnd t

-- ---- V7: the Schemas of one id have equal fields, and so have its Channels; a Channel stands behind its schema, if it
-- has one, and a Message behind its channel

-- one of the records is a Schema of that id
pub record HasSchema (records : List Top) (id : ℕ) : Type 0 where
  pub place : ℕ
  pub top : Top
  pub shown : SchemaFields
  pub at : At records place top
  pub is : IsSchema top id shown

-- one of the records is a Channel of that id
pub record HasChannel (records : List Top) (id : ℕ) : Type 0 where
  pub place : ℕ
  pub top : Top
  pub shown : ChannelFields
  pub at : At records place top
  pub is : IsChannel top id shown

-- a record agrees with those before it
pub record Agrees (before : List Top) (t : Top) : Type 0 where
  pub schemas : (id : ℕ) (f g : SchemaFields) (n : ℕ) (u : Top) → IsSchema t id f → At before n u → IsSchema u id g
      → g ≡ f
  pub channels : (id : ℕ) (f g : ChannelFields) (n : ℕ) (u : Top) → IsChannel t id f → At before n u → IsChannel u id g
      → SameChannel g f
  pub schema : (id : ℕ) (f : ChannelFields) → IsChannel t id f → (f.schema ≡ 0) ⊎ HasSchema before f.schema
  pub channel : (id : ℕ) (m : MessageFields) → IsMessage t id m → HasChannel before id

abbrev pub V7 : List Top → Top → Type 0
V7 before t = (n : ℕ) (u : Top) → At (flattened t) n u → Agrees (flat before ++ take n (flattened t)) u

-- ---- V8: a chunk's size and CRC are those of its records; these are whole Schemas, Channels, Messages and unknown
-- records that keep V6; where there is a Message among them, the chunk's times are the least and the greatest log time

-- one of the records is a Message that was logged then
pub record LogsAt (records : List Top) (time : ℕ) : Type 0 where
  pub place : ℕ
  pub top : Top
  pub channel : ℕ
  pub message : MessageFields
  pub at : At records place top
  pub is : IsMessage top channel message
  pub then : message.log_time ≡ time

-- where one of the records is a Message, these are the least and the greatest log time
abbrev pub TimesAre : List Top → ℕ → ℕ → Type 0
TimesAre records start end =
    (time : ℕ) → LogsAt records time → (start ≤ time) × (time ≤ end) × LogsAt records start × LogsAt records end

abbrev pub stands_in_chunk : ℕ → Bool
stands_in_chunk op =
    list_any (λ kind. kind == op) (schema_opcode ∷ channel_opcode ∷ message_opcode ∷ []) || is_unknown op

pub record ChunkIsRight (f : ChunkFields) : Type 0 where
  pub size : f.size ≡ length f.records
  pub crc : (f.crc ≡ 0) ⊎ (f.crc ≡ remainder f.records)
  pub framed : spelled (records_in f.records) ≡ f.records
  pub kinds : Each (λ u. stands_in_chunk u.op ≡ true) (records_in f.records)
  pub layouts : Each V6 (records_in f.records)
  pub times : TimesAre (records_in f.records) f.start f.end

-- of a chunk that names a compression nothing is said
abbrev pub V8 : Top → Type 0
V8 t = (f : ChunkFields) → IsChunk t f → f.compression ≡ [] → ChunkIsRight f

-- ---- V10: the CRC of an Attachment is 0, or that of the fields before it

abbrev pub V10 : Top → Type 0
V10 t = (f : AttachmentFields) (place : ℕ) → t.op ≡ attachment_opcode → CrcStandsAt t.content place f
    → (f.crc ≡ 0) ⊎ (f.crc ≡ remainder (take place t.content))

-- the record breaks that rule
pub data Breaks (before : List Top) (t : Top) : Rule → Type 0 where
  breaks_3 : (V3 before t → ⊥) → Breaks before t rules.V3
  breaks_5 : (V5 before t → ⊥) → Breaks before t rules.V5
  breaks_6 : (V6 t → ⊥) → Breaks before t rules.V6
  breaks_7 : (V7 before t → ⊥) → Breaks before t rules.V7
  breaks_8 : (V8 t → ⊥) → Breaks before t rules.V8
  breaks_10 : (V10 t → ⊥) → Breaks before t rules.V10

-- ---- the size and the CRC of a chunk

-- the size and the CRC that it names are those of its records
pub record HasSizeAndCrc (f : ChunkFields) : Type 0 where
  pub size : f.size ≡ length f.records
  pub crc : (f.crc ≡ 0) ⊎ (f.crc ≡ remainder f.records)
