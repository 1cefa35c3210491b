-- What a replay by the index reaches of a file: the Chunk Indexes of its summary that meet a range, the Message Indexes that
-- they name, and the messages to which these lead. Why such a file isn't indexed, and where a rule fails on what is reached.
use Rattle.std.specs.Prelude.{◌≡◌, ◌≢◌, ◌⊎◌, ℕ, ◌+◌, ◌*◌, ◌<◌, ◌≤◌, List, [], ◌++◌, length, drop, sum_by, AllPairs, Some}
use Rattle.mcap_wire.specs.Layout.{content_limit, text_length}
use Rattle.rec_index.specs.Records.{chunk_opcode, message_index_opcode, chunk_index_opcode, statistics_opcode}
use Rattle.mcap_model.specs.declared.replay.Range.{Range}
use Rattle.mcap_model.specs.Places.{At, Has, Each}
use Rattle.mcap_model.specs.Tops.{Top, top_bytes, spelled}
use Rattle.mcap_model.specs.Fields.{ChannelFields, IsChannel, MessageFields, IsMessage, ChunkFields, IsChunk, IsMessageIndex, ChunkIndexFields, IsChunkIndex, StatisticsFields, IsStatistics}
use Rattle.mcap_model.specs.Kept.{NamesCompression}
use Rattle.mcap_model.specs.Scan.{Seen, InRange}
use Rattle.mcap_model.specs.Whole.{AreShort, offset_among}
use Rattle.mcap_model.specs.Led.{HasSummary, IsThere, LedByIndex, Led, Meets}
use Rattle.summary_read.specs.Reached.{HasNoSummary, SummaryStartsAt, FailsLoading, Passes}
use Rattle.summary_read.specs.Parts.{of_kind, first_of_kind}
use Rattle.mcap_model.specs.declared.refusals.NotIndexed.{NotIndexed}
use Rattle.mcap_model.specs.declared.refusals.NotIndexed.TheVariants as lacks
use Rattle.mcap_model.specs.declared.rules.Rule.{Rule}
use Rattle.mcap_model.specs.declared.rules.Rule.TheVariants as rules

-- ---- what is reached

-- a Chunk Index of the summary stands at that offset of the file, and shows these fields
pub record HasChunkIndex (file : List ℕ) (at : ℕ) (f : ChunkIndexFields) : Type 0 where
  pub start : ℕ
  pub summary : List Top
  pub has : HasSummary file start summary
  pub place : ℕ
  pub index : Top
  pub indexed : At summary place index
  pub is : IsChunkIndex index f
  pub there : at ≡ start + offset_among summary place

-- and it meets the range
pub record IsReached (file : List ℕ) (range : Range) (at : ℕ) (f : ChunkIndexFields) : Type 0 where
  pub indexed : HasChunkIndex file at f
  pub meets : Meets range f

-- its map has this offset for that channel
pub record NamesOffset (file : List ℕ) (range : Range) (at : ℕ) (f : ChunkIndexFields) (channel offset : ℕ)
    : Type 0 where
  pub reached : IsReached file range at f
  pub named : Has {X = ℕ × ℕ} f.indexes (channel, offset)

-- there stands a Message Index of that channel, with this log time and offset, and the log time lies in the range
pub record LeadsTo (file : List ℕ) (range : Range) (at : ℕ) (f : ChunkIndexFields) (channel offset : ℕ) (entry : ℕ × ℕ)
    : Type 0 where
  pub names : NamesOffset file range at f channel offset
  pub list : Top
  pub entries : List (ℕ × ℕ)
  pub there : IsThere file offset list
  pub is : IsMessageIndex list channel entries
  pub entry_there : Has {X = ℕ × ℕ} entries entry
  pub in_range : InRange range entry.0

-- Chunk Indexes of one chunk stand at these offsets
pub record AreOfOne (file : List ℕ) (first second : ℕ) : Type 0 where
  pub one : ChunkIndexFields
  pub other : ChunkIndexFields
  pub first_there : HasChunkIndex file first one
  pub second_there : HasChunkIndex file second other
  pub same : one.offset ≡ other.offset

-- ---- what isn't there

-- no Chunk stands at that offset
abbrev pub LacksChunk : List ℕ → ℕ → Type 0
LacksChunk file offset = (t : Top) (g : ChunkFields) → IsThere file offset t → IsChunk t g → ⊥

-- a chunk that names no compression stands at the first offset and ends at the other
pub record ChunkEndsAt (file : List ℕ) (offset end : ℕ) : Type 0 where
  pub chunk : Top
  pub there : IsThere file offset chunk
  pub kind : chunk.op ≡ chunk_opcode
  pub unpacked : text_length chunk.content 28 ≡ 0
  pub is : end ≡ offset + length (top_bytes chunk)

-- The offset isn't in the bytes behind the chunk, of which there are as many as the Chunk Index states for its Message
-- Indexes.
pub record IsElsewhere (file : List ℕ) (f : ChunkIndexFields) (offset : ℕ) : Type 0 where
  pub end : ℕ
  pub ends : ChunkEndsAt file f.offset end
  pub outside : (offset < end) ⊎ (end + f.indexes_size ≤ offset)

-- no Message Index of that channel stands at that offset
abbrev pub LacksIndex : List ℕ → ℕ → ℕ → Type 0
LacksIndex file channel offset =
    (t : Top) (entries : List (ℕ × ℕ)) → IsThere file offset t → IsMessageIndex t channel entries → ⊥

-- Message Indexes alone stand from the first offset up to the other
pub record IndexesStand (file : List ℕ) (from to : ℕ) : Type 0 where
  pub indexes : List Top
  pub kinds : Each (λ u. u.op ≡ message_index_opcode) indexes
  pub short : AreShort indexes
  pub rest : List ℕ
  pub split : drop from file ≡ spelled indexes ++ rest
  pub there : to ≡ from + length (spelled indexes)

-- what stands at that offset is a Message Index of the chunk: behind the chunk stand Message Indexes alone up to there
pub record IsOwn (file : List ℕ) (f : ChunkIndexFields) (offset : ℕ) : Type 0 where
  pub end : ℕ
  pub ends : ChunkEndsAt file f.offset end
  pub stand : IndexesStand file end offset

-- it isn't
pub record IsApart (file : List ℕ) (f : ChunkIndexFields) (offset : ℕ) : Type 0 where
  pub end : ℕ
  pub ends : ChunkEndsAt file f.offset end
  pub apart : IndexesStand file end offset → ⊥

-- no message of that channel and of the entry's log time stands at the entry's offset behind the first 49 bytes of a chunk
abbrev pub LacksMessage : List ℕ → ℕ → ℕ → ℕ × ℕ → Type 0
LacksMessage file chunk channel entry = (t : Top) (m : MessageFields) → IsThere file (chunk + 49 + entry.1) t
    → IsMessage t channel m → m.log_time ≡ entry.0 → ⊥

-- there stands a Message Index of that channel, with an entry in the range that leads to no such message
pub record LeadsNowhere (file : List ℕ) (range : Range) (at : ℕ) (f : ChunkIndexFields) (channel offset : ℕ)
    : Type 0 where
  pub entry : ℕ × ℕ
  pub leads : LeadsTo file range at f channel offset entry
  pub lacks : LacksMessage file f.offset channel entry

-- ---- where a rule fails

-- That rule fails at that offset: on the ends of the file or on its summary; at a Chunk Index that leads to
-- no Chunk, or to one to which an earlier one leads, or whose map leads to no Message Index of a channel, to another place than
-- behind the chunk, or to one that isn't the chunk's (V12); or at a Message Index of the chunk with an entry in the range that leads to no message (V9).
pub data BreaksByIndex (file : List ℕ) (range : Range) : Rule → ℕ → Type 0 where
  at_loading : (rule : Rule) (offset : ℕ) → FailsLoading file rule offset → BreaksByIndex file range rule offset
  second_index : (first at : ℕ) → first < at → AreOfOne file first at → BreaksByIndex file range rules.V12 at
  no_chunk : (at : ℕ) (f : ChunkIndexFields) → IsReached file range at f → LacksChunk file f.offset
      → BreaksByIndex file range rules.V12 at
  no_index : (at : ℕ) (f : ChunkIndexFields) (channel offset : ℕ) → NamesOffset file range at f channel offset
      → LacksIndex file channel offset → BreaksByIndex file range rules.V12 at
  index_elsewhere : (at : ℕ) (f : ChunkIndexFields) (channel offset : ℕ) → NamesOffset file range at f channel offset
      → IsElsewhere file f offset → BreaksByIndex file range rules.V12 at
  index_apart : (at : ℕ) (f : ChunkIndexFields) (channel offset : ℕ) → NamesOffset file range at f channel offset
      → IsApart file f offset → BreaksByIndex file range rules.V12 at
  no_message : (at : ℕ) (f : ChunkIndexFields) (channel offset : ℕ) → LeadsNowhere file range at f channel offset
      → IsOwn file f offset → BreaksByIndex file range rules.V9 offset

-- the chunk of a Chunk Index that is reached stands at that offset, and names that compression
pub record ReachesPacked (file : List ℕ) (range : Range) (offset : ℕ) (name : List ℕ) : Type 0 where
  pub at : ℕ
  pub index : ChunkIndexFields
  pub reached : IsReached file range at index
  pub place : index.offset ≡ offset
  pub chunk : Top
  pub there : IsThere file offset chunk
  pub packed : NamesCompression chunk name

-- a whole record stands there whose content is past the limit
pub record IsTooLong (file : List ℕ) (at : ℕ) : Type 0 where
  pub top : Top
  pub there : IsThere file at top
  pub past : content_limit < length top.content

-- how many bytes of data messages have together
abbrev pub data_of : List Seen → ℕ
data_of messages = sum_by (λ s. length s.message.payload) messages

-- Messages to which the summary leads, no two of them the same, have together more bytes of data than the file. To one of them
-- a Message Index leads that is named at that offset.
pub record IsTooMuch (file : List ℕ) (range : Range) (offset : ℕ) : Type 0 where
  pub messages : List Seen
  pub are : (s : Seen) → Has messages s → Led file range s
  pub once : AllPairs (λ s r. s ≢ r) messages
  pub past : length file < data_of messages
  pub last : Seen
  pub there : Has messages last
  pub at : ℕ
  pub index : ChunkIndexFields
  pub channel : ℕ
  pub names : NamesOffset file range at index channel offset
  pub led : LedByIndex file range index.offset offset last

-- A limit is passed on the ends of the file or in its summary; or a record whose content is past the limit stands where a
-- Chunk Index, its map or an entry leads, or behind the chunk in front of a Message Index that is named; or with a message of a
-- Message Index there is more data than in the file.
pub data LeadsPastLimit (file : List ℕ) (range : Range) : ℕ → Type 0 where
  while_loading : (offset : ℕ) → Passes file offset → LeadsPastLimit file range offset
  at_chunk : (at : ℕ) (f : ChunkIndexFields) (offset : ℕ) → IsReached file range at f → f.offset ≡ offset
      → IsTooLong file offset → LeadsPastLimit file range offset
  at_index : (at : ℕ) (f : ChunkIndexFields) (channel offset : ℕ) → NamesOffset file range at f channel offset
      → IsTooLong file offset → LeadsPastLimit file range offset
  behind_chunk : (at : ℕ) (f : ChunkIndexFields) (channel list end offset : ℕ)
      → NamesOffset file range at f channel list → ChunkEndsAt file f.offset end → IndexesStand file end offset
      → offset < list → IsTooLong file offset → LeadsPastLimit file range offset
  at_message : (at : ℕ) (f : ChunkIndexFields) (channel list offset : ℕ) (entry : ℕ × ℕ)
      → LeadsTo file range at f channel list entry → offset ≡ f.offset + 49 + entry.1 → IsTooLong file offset
      → LeadsPastLimit file range offset
  too_much_data : (offset : ℕ) → IsTooMuch file range offset → LeadsPastLimit file range offset

-- ---- what is asked for

-- the bytes of a record in front of its content
abbrev pub head_length : ℕ
head_length = 9

-- So much is asked for beside that to which the indexes lead: nothing, or, where an entry leads to no message, the heads of
-- Message Indexes directly behind the chunk and of one record more.
pub data Beside (file : List ℕ) (range : Range) : ℕ → Type 0 where
  nothing : Beside file range 0
  heads : (at : ℕ) (f : ChunkIndexFields) (channel offset end place : ℕ) → LeadsNowhere file range at f channel offset
      → ChunkEndsAt file f.offset end → (walked : IndexesStand file end place)
      → Beside file range (head_length * length walked.indexes + head_length)

-- from the one count on no more is asked for up to the other than the cost, and what is asked for beside
abbrev pub AskedBeside : List ℕ → Range → ℕ → ℕ → ℕ → Type 0
AskedBeside file range before now cost = (beside : ℕ) × Beside file range beside × (now ≤ before + cost + beside)

-- ---- why a file isn't indexed

-- the summary states another number of chunks than it has Chunk Indexes
pub record CountsDiffer (file : List ℕ) (stated found : ℕ) : Type 0 where
  pub start : ℕ
  pub summary : List Top
  pub has : HasSummary file start summary
  pub statistics : Top
  pub first : first_of_kind statistics_opcode summary ≡ Some statistics
  pub shown : StatisticsFields
  pub is : IsStatistics statistics shown
  pub stated_is : stated ≡ shown.chunks
  pub found_is : found ≡ length (of_kind chunk_index_opcode summary)
  pub differ : stated ≢ found

-- the map of a Chunk Index is empty, and one of its times isn't 0
pub record NamesNone (file : List ℕ) (range : Range) (chunk : ℕ) : Type 0 where
  pub at : ℕ
  pub index : ChunkIndexFields
  pub reached : IsReached file range at index
  pub place : index.offset ≡ chunk
  pub none : index.indexes ≡ []
  pub timed : (index.start ≡ 0) × (index.end ≡ 0) → ⊥

-- the summary has no Channel of the id of a Message Index with an entry in the range
pub record LacksChannel (file : List ℕ) (range : Range) (id : ℕ) : Type 0 where
  pub at : ℕ
  pub index : ChunkIndexFields
  pub offset : ℕ
  pub entry : ℕ × ℕ
  pub leads : LeadsTo file range at index id offset entry
  pub start : ℕ
  pub summary : List Top
  pub has : HasSummary file start summary
  pub none : Each (λ u. (f : ChannelFields) → IsChannel u id f → ⊥) summary

abbrev pub IsNotIndexed : List ℕ → Range → NotIndexed → Type 0
IsNotIndexed file range lacks.NoSummary = HasNoSummary file
IsNotIndexed file range lacks.NoStatistics = (start : ℕ) × (summary : List Top) × SummaryStartsAt file start
    × HasSummary file start summary × Each (λ t. t.op ≢ statistics_opcode) summary
IsNotIndexed file range (lacks.ChunkCount stated found) = CountsDiffer file stated found
IsNotIndexed file range (lacks.NoMessageIndex chunk) = NamesNone file range chunk
IsNotIndexed file range (lacks.NoChannel id) = LacksChannel file range id
