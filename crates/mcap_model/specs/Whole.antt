-- The rules of a whole file that a reading of its data section doesn't use. Each says of the record at one place among
-- all records that it keeps the rule.
use Rattle.std.specs.Prelude.{◌≡◌, ◌≢◌, ◌⊎◌, ℕ, suc, ◌+◌, ◌^◌, ◌<◌, ◌≤◌, List, [], ◌∷◌, ◌++◌, length, take, drop, filter, take_while, Bool, true, ◌||◌, ◌&&◌, ◌==◌, nat_le, nat_lt, if◌then◌else◌, AllPairs}
use Rattle.std.specs.List.{list_any, AllZip}
use Rattle.mcap_wire.specs.Layout.{magic, part}
use Rattle.rec_data.specs.Records.{footer_opcode, schema_opcode, channel_opcode, message_opcode, attachment_opcode, metadata_opcode, data_end_opcode}
use Rattle.rec_index.specs.Records.{chunk_opcode, message_index_opcode, chunk_index_opcode, attachment_index_opcode, statistics_opcode, metadata_index_opcode, summary_offset_opcode}
use Rattle.mcap_crc.specs.Remainder.{remainder}
use Rattle.mcap_model.specs.Places.{At, Has, Each}
use Rattle.mcap_model.specs.Tops.{Top, top_bytes, spelled, offset_behind, flat, inner_tops}
use Rattle.mcap_model.specs.Fields.{MessageFields, IsMessage, ChunkFields, IsChunk, IsMessageIndex, ChunkIndexFields, IsChunkIndex, AttachmentFields, IsAttachment, IsMetadata, AttachmentIndexFields, IsAttachmentIndex, IsMetadataIndex, StatisticsFields, IsStatistics, IsSummaryOffset, IsFooter}
use Rattle.mcap_model.specs.Rules.{HasDataEnd, is_unknown, HasSchema, HasChannel, TimesAre}
use Rattle.mcap_model.specs.Scan.{is_message_top}

-- the offset of the record at that place
abbrev pub offset_of : List Top → ℕ → ℕ
offset_of tops n = offset_behind (take n tops)

-- this record stands at that offset
abbrev pub StandsAt : List Top → ℕ → Top → Type 0
StandsAt tops offset t = (n : ℕ) × At tops n t × (offset ≡ offset_of tops n)

abbrev pub is_last : List Top → ℕ → Type 0
is_last tops n = length tops ≡ suc n

-- a record behind the Data End and in front of the Footer, which is the last one
abbrev pub InSummary : List Top → ℕ → Type 0
InSummary tops n = HasDataEnd (take n tops) × (suc n < length tops)

-- ---- V2 and V4: both ends, and whole records between them

abbrev pub EndsWithMagic : List ℕ → Type 0
EndsWithMagic bytes = (start : List ℕ) × (bytes ≡ start ++ magic)

abbrev pub V2 : List ℕ → Type 0
V2 file = (16 ≤ length file) × EndsWithMagic file

-- the length of each content can be declared
abbrev pub AreShort : List Top → Type 0
AreShort tops = Each (λ t. length t.content < 2 ^ 64) tops

-- the file is these records between two magics
pub record IsWhole (file : List ℕ) (tops : List Top) : Type 0 where
  pub split : file ≡ magic ++ (spelled tops ++ magic)
  pub short : AreShort tops

-- ---- V5 behind the Data End: between it and the last record stand only Schemas, Channels, indexes of chunks, of
-- attachments and of metadata, Statistics, Summary Offsets and unknown records; and there is a Data End

abbrev pub stands_in_summary : ℕ → Bool
stands_in_summary op = list_any (λ kind. kind == op) (schema_opcode ∷ channel_opcode ∷ chunk_index_opcode
    ∷ attachment_index_opcode ∷ statistics_opcode ∷ metadata_index_opcode ∷ summary_offset_opcode ∷ []) || is_unknown op

abbrev pub V5Behind : List Top → ℕ → Top → Type 0
V5Behind tops n t = (InSummary tops n → stands_in_summary t.op ≡ true) × (is_last tops n → HasDataEnd tops)

-- ---- V9: Message Indexes

abbrev pub is_index : Top → Bool
is_index t = t.op == message_index_opcode

-- the Message Indexes directly behind the record at that place
abbrev pub indexes_behind : List Top → ℕ → List Top
indexes_behind tops n = take_while is_index (drop (suc n) tops)

-- the offset of a record among others
abbrev pub offset_among : List Top → ℕ → ℕ
offset_among records n = length (spelled (take n records))

-- among the records there is a message of this channel, of this log time, at this offset
pub record IsEntryOf (records : List Top) (channel : ℕ) (entry : ℕ × ℕ) : Type 0 where
  pub place : ℕ
  pub top : Top
  pub message : MessageFields
  pub at : At records place top
  pub is : IsMessage top channel message
  pub time : entry.0 ≡ message.log_time
  pub offset : entry.1 ≡ offset_among records place

-- the entries are those of all messages of this channel among the records, each once
pub record AreEntries (records : List Top) (channel : ℕ) (entries : List (ℕ × ℕ)) : Type 0 where
  pub are : (entry : ℕ × ℕ) → Has entries entry → IsEntryOf records channel entry
  pub all : (entry : ℕ × ℕ) → IsEntryOf records channel entry → Has entries entry
  pub once : (i j : ℕ) (entry : ℕ × ℕ) → At entries i entry → At entries j entry → i ≡ j

-- A Message Index of a chunk, behind the earlier ones of that chunk, has the entries of its channel's messages, and none
-- of the earlier ones is of its channel.
pub record IndexIsRight (chunk : Top) (earlier : List Top) (t : Top) : Type 0 where
  pub entries : (channel : ℕ) (entries : List (ℕ × ℕ)) → IsMessageIndex t channel entries
      → AreEntries (inner_tops chunk) channel entries
  pub only : (channel : ℕ) (u : Top) (entries others : List (ℕ × ℕ)) → Has earlier u → IsMessageIndex u channel others
      → IsMessageIndex t channel entries → ⊥

-- Of the records before a Message Index the last is a Chunk or a Message Index. Where a chunk is followed by Message
-- Indexes alone, it is right for that chunk: so one that has no chunk fails alone, and not those behind it.
pub record BelongsTo (before : List Top) (t : Top) : Type 0 where
  pub front : List Top
  pub neighbour : Top
  pub follows : before ≡ front ++ neighbour ∷ []
  pub is : (neighbour.op ≡ chunk_opcode) ⊎ (neighbour.op ≡ message_index_opcode)
  pub right : (others : List Top) (chunk : Top) (earlier : List Top) → before ≡ others ++ chunk ∷ earlier
      → chunk.op ≡ chunk_opcode → Each (λ u. u.op ≡ message_index_opcode) earlier → IndexIsRight chunk earlier t

-- behind the chunk stand no Message Indexes, or one for each channel with a message in it
abbrev pub IsIndexed : List Top → ℕ → Top → Type 0
IsIndexed tops n t = (indexes_behind tops n ≡ [])
    ⊎ ((j channel : ℕ) (u : Top) (m : MessageFields) → At (inner_tops t) j u → IsMessage u channel m
    → (k : ℕ) × (i : Top) × (entries : List (ℕ × ℕ)) × At (indexes_behind tops n) k i
    × IsMessageIndex i channel entries)

-- some record stands behind the chunk at that place and its Message Indexes
abbrev pub IsFollowed : List Top → ℕ → Type 0
IsFollowed tops n = suc n + length (indexes_behind tops n) < length tops

abbrev pub V9 : List Top → ℕ → Top → Type 0
V9 tops n t = (t.op ≡ message_index_opcode → BelongsTo (take n tops) t)
    × (t.op ≡ chunk_opcode → IsFollowed tops n → IsIndexed tops n t)

-- ---- V11: where the summary starts, and its order

-- the records behind the first Data End
abbrev pub behind_end : List Top → List Top
behind_end [] = []
behind_end (t ∷ ts) = if t.op == data_end_opcode then ts else behind_end ts

abbrev pub is_known : ℕ → Bool
is_known op = nat_le 1 op && nat_lt op 16

-- the known ones among them
abbrev pub known_behind_end : List Top → List Top
known_behind_end tops = filter (λ t. is_known t.op) (behind_end tops)

-- the last of these records is of that opcode
abbrev pub EndsWith : ℕ → List Top → Type 0
EndsWith op tops = (front : List Top) × (t : Top) × (tops ≡ front ++ t ∷ []) × (t.op ≡ op)

-- the Footer names the summary and the first Summary Offset
pub record NamesSummary (tops : List Top) (n summary offsets : ℕ) : Type 0 where
  -- behind the first Data End stands the Footer, and there is no summary; or the summary starts there
  pub start : (k : ℕ) × (t : Top) × At tops k t × (t.op ≡ data_end_opcode) × (HasDataEnd (take k tops) → ⊥)
      × (((summary ≡ 0) × (n ≡ suc k)) ⊎ (summary ≡ offset_of tops (suc k)))
  -- where the summary has a Summary Offset, this is the place of the first one
  pub first_offset : (k : ℕ) (t : Top) → At tops k t → InSummary tops k → t.op ≡ summary_offset_opcode
      → Each (λ u. u.op ≢ summary_offset_opcode) (behind_end (take k tops)) → offsets ≡ offset_of tops k

-- A known record of a summary, behind the known ones before it: the one in front of it has its opcode, or none has;
-- there is one Statistics; and behind Summary Offsets stand such alone.
pub record IsInPlace (before : List Top) (t : Top) : Type 0 where
  pub together : EndsWith t.op before ⊎ Each (λ u. u.op ≢ t.op) before
  pub one_statistics : t.op ≡ statistics_opcode → Each (λ u. u.op ≢ statistics_opcode) before
  pub offsets_last : t.op ≢ summary_offset_opcode → Each (λ u. u.op ≢ summary_offset_opcode) before

abbrev pub V11 : List Top → ℕ → Top → Type 0
V11 tops n t = ((summary offsets crc : ℕ) → is_last tops n → IsFooter t summary offsets crc → NamesSummary tops n summary offsets)
    × (InSummary tops n → is_known t.op ≡ true → IsInPlace (known_behind_end (take n tops)) t)

-- ---- V12: Chunk Indexes

-- the Chunk Index has the offset of this chunk, its length, times, compression and sizes
pub record IsIndexOf (tops : List Top) (f : ChunkIndexFields) (k : ℕ) (c : Top) (g : ChunkFields) : Type 0 where
  pub at : At tops k c
  pub is : IsChunk c g
  pub offset : f.offset ≡ offset_of tops k
  pub size : f.size ≡ length (top_bytes c)
  pub start : f.start ≡ g.start
  pub end : f.end ≡ g.end
  pub compression : f.compression ≡ g.compression
  pub compressed : f.compressed ≡ length g.records
  pub uncompressed : f.uncompressed ≡ g.size

-- the Message Index at that place behind a chunk is of this channel, and stands at this offset
pub record IsNamed (tops : List Top) (k : ℕ) (channel offset : ℕ) (entries : List (ℕ × ℕ)) : Type 0 where
  pub place : ℕ
  pub top : Top
  pub at : At (indexes_behind tops k) place top
  pub is : IsMessageIndex top channel entries
  pub there : offset ≡ offset_of tops (suc k + place)

-- The map is empty, or it names the Message Indexes behind the chunk: none else, and each that has an entry. Then their
-- length together is stated.
abbrev pub NamesIndexes : List Top → ℕ → ChunkIndexFields → Type 0
NamesIndexes tops k f = (f.indexes ≡ [])
    ⊎ (((channel offset : ℕ) → Has f.indexes (channel, offset) → (entries : List (ℕ × ℕ)) × IsNamed tops k channel offset entries)
    × ((channel offset : ℕ) (entries : List (ℕ × ℕ)) → IsNamed tops k channel offset entries → entries ≢ [] → Has f.indexes (channel, offset))
    × (f.indexes_size ≡ length (spelled (indexes_behind tops k))))

pub record ChunkIndexIsRight (tops : List Top) (n : ℕ) (f : ChunkIndexFields) : Type 0 where
  pub k : ℕ
  pub chunk : Top
  pub shown : ChunkFields
  pub is : IsIndexOf tops f k chunk shown
  pub names : NamesIndexes tops k f
  -- no Chunk Index in front of it is of that chunk
  pub only : (i : ℕ) (u : Top) (other : ChunkIndexFields) → i < n → At tops i u → IsChunkIndex u other
      → other.offset ≢ f.offset

abbrev pub V12 : List Top → ℕ → Top → Type 0
V12 tops n t = (f : ChunkIndexFields) → IsChunkIndex t f → ChunkIndexIsRight tops n f

-- ---- V13: Attachment Indexes and Metadata Indexes

pub record AttachmentIndexIsRight (tops : List Top) (n : ℕ) (f : AttachmentIndexFields) : Type 0 where
  pub top : Top
  pub shown : AttachmentFields
  pub at : StandsAt tops f.offset top
  pub is : IsAttachment top shown
  pub size : f.size ≡ length (top_bytes top)
  pub log_time : f.log_time ≡ shown.log_time
  pub create_time : f.create_time ≡ shown.create_time
  pub payload_size : f.payload_size ≡ length shown.payload
  pub name : f.name ≡ shown.name
  pub media_type : f.media_type ≡ shown.media_type
  pub only : (i : ℕ) (u : Top) (other : AttachmentIndexFields) → i < n → At tops i u → IsAttachmentIndex u other
      → other.offset ≢ f.offset

pub record MetadataIndexIsRight (tops : List Top) (n offset size : ℕ) (name : List ℕ) : Type 0 where
  pub top : Top
  pub pairs : List (List ℕ × List ℕ)
  pub at : StandsAt tops offset top
  pub is : IsMetadata top name pairs
  pub size_is : size ≡ length (top_bytes top)
  pub only : (i other other_size : ℕ) (u : Top) (other_name : List ℕ) → i < n → At tops i u
      → IsMetadataIndex u other other_size other_name → other ≢ offset

abbrev pub V13 : List Top → ℕ → Top → Type 0
V13 tops n t = ((f : AttachmentIndexFields) → IsAttachmentIndex t f → AttachmentIndexIsRight tops n f)
    × ((offset size : ℕ) (name : List ℕ) → IsMetadataIndex t offset size name → MetadataIndexIsRight tops n offset size name)

-- ---- V14: Statistics

-- the records in front of the first Data End
pub record IsSection (tops section : List Top) : Type 0 where
  pub end : Top
  pub behind : List Top
  pub joined : tops ≡ section ++ end ∷ behind
  pub kind : end.op ≡ data_end_opcode
  pub unended : HasDataEnd section → ⊥

-- the same, or all records where there is no Data End
abbrev pub IsDataSection : List Top → List Top → Type 0
IsDataSection tops section = IsSection tops section ⊎ ((HasDataEnd tops → ⊥) × (section ≡ tops))

-- so many records are of that opcode
abbrev pub count_of : ℕ → List Top → ℕ
count_of op records = length (filter (λ t. t.op == op) records)

-- the channels of the messages among the records, in their order
abbrev pub AreChannels : List Top → List ℕ → Type 0
AreChannels records channels =
    AllZip (λ t channel. (m : MessageFields) × IsMessage t channel m) (filter is_message_top records) channels

-- so many of the messages are on that channel
abbrev pub on_channel : List ℕ → ℕ → ℕ
on_channel channels channel = length (filter (λ c. c == channel) channels)

-- just these numbers have that property, and each stands once
pub record AreIds (P : ℕ → Type 0) (ids : List ℕ) : Type 0 where
  pub apart : AllPairs (λ a b. a ≢ b) ids
  pub have : Each P ids
  pub all : (id : ℕ) → P id → Has ids id

-- a count lies between the number of ids in the section and that in the whole file
abbrev pub LiesBetween : (List Top → ℕ → Type 0) → List Top → List Top → ℕ → Type 0
LiesBetween P section tops n = (low high : List ℕ) × AreIds (P (flat section)) low × AreIds (P (flat tops)) high
    × (length low ≤ n) × (n ≤ length high)

-- the counts are those of the channels of the messages in the section: each right, and none of such a channel left out
pub record AreCounted (section : List Top) (counts : List (ℕ × ℕ)) : Type 0 where
  pub channels_of : List ℕ
  pub are_channels : AreChannels (flat section) channels_of
  pub right : (channel count : ℕ) → Has counts (channel, count) → count ≡ on_channel channels_of channel
  pub all : (channel : ℕ) → Has channels_of channel → (count : ℕ) × Has counts (channel, count)

pub record StatisticsAreRight (tops : List Top) (f : StatisticsFields) : Type 0 where
  pub section : List Top
  pub is : IsDataSection tops section
  pub messages : f.messages ≡ count_of message_opcode (flat section)
  pub attachments : f.attachments ≡ count_of attachment_opcode section
  pub metadata : f.metadata ≡ count_of metadata_opcode section
  pub chunks : f.chunks ≡ count_of chunk_opcode section
  pub times : TimesAre (flat section) f.start f.end
  pub counts : (f.counts ≡ []) ⊎ AreCounted section f.counts
  pub schemas : LiesBetween HasSchema section tops f.schemas
  pub channels : LiesBetween HasChannel section tops f.channels

abbrev pub V14 : List Top → ℕ → Top → Type 0
V14 tops n t = (f : StatisticsFields) → IsStatistics t f → StatisticsAreRight tops f

-- ---- V15: Summary Offsets

-- the first of these records is of that opcode
abbrev pub StartsWith : ℕ → List Top → Type 0
StartsWith op tops = (t : Top) × (others : List Top) × (tops ≡ t ∷ others) × (t.op ≡ op)

-- The summary's records of that opcode, from the first through the last, begin at that offset and have so many bytes.
-- In front of them and behind them, up to the last record of the file, the summary has none.
pub record IsGroup (tops : List Top) (op offset size : ℕ) : Type 0 where
  pub front : List Top
  pub group : List Top
  pub back : List Top
  pub footer : Top
  pub joined : tops ≡ front ++ (group ++ (back ++ footer ∷ []))
  pub within : HasDataEnd front
  pub starts : StartsWith op group
  pub ends : EndsWith op group
  pub none_before : Each (λ u. u.op ≢ op) (behind_end front)
  pub none_behind : Each (λ u. u.op ≢ op) back
  pub offset_is : offset ≡ offset_behind front
  pub size_is : size ≡ length (spelled group)

pub record SummaryOffsetIsRight (tops : List Top) (n op offset size : ℕ) : Type 0 where
  pub group : IsGroup tops op offset size
  pub only : (i offset size : ℕ) (u : Top) → i < n → At tops i u → IsSummaryOffset u op offset size → ⊥

abbrev pub V15 : List Top → ℕ → Top → Type 0
V15 tops n t = (op offset size : ℕ) → IsSummaryOffset t op offset size → SummaryOffsetIsRight tops n op offset size

-- ---- V16: the CRC of the summary, which ends behind the first 25 bytes of the Footer

abbrev pub V16 : List ℕ → List Top → ℕ → Top → Type 0
V16 file tops n t = (summary offsets crc : ℕ) → is_last tops n → IsFooter t summary offsets crc → summary ≢ 0 → crc ≢ 0
    → crc ≡ remainder (part summary (offset_of tops n + 25) file)

-- ---- V17: the last record is a Footer, and no other one is

abbrev pub V17 : List Top → Type 0
V17 tops = (before : List Top) × (t : Top) × (tops ≡ before ++ t ∷ [])
    × ((summary offsets crc : ℕ) × IsFooter t summary offsets crc) × Each (λ u. u.op ≢ footer_opcode) before
