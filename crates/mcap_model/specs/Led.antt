-- The messages to which the summary of a file leads by its Chunk Indexes and Message Indexes, which of them a replay
-- shows, and how many bytes such a replay asks for.
use Rattle.std.specs.Prelude.{◌≡◌, ◌≢◌, ℕ, ◌+◌, ◌-◌, ◌^◌, ◌<◌, ◌≤◌, List, ◌++◌, length, take, drop, filter, sum, Bool, ◌&&◌, ◌==◌, nat_lt, nat_le, true, Option, Some, None, AllPairs}
use Rattle.std.specs.List.{AllZip}
use Rattle.mcap_wire.specs.Layout.{number, magic, part}
use Rattle.rec_index.specs.Records.{chunk_index_opcode}
use Rattle.mcap_model.specs.declared.replay.Range.{Range}
use Rattle.mcap_model.specs.Places.{At, Has, Each}
use Rattle.mcap_model.specs.Tops.{Top, top_bytes, spelled, StandsIn, inner_tops}
use Rattle.mcap_model.specs.Fields.{IsMessage, ChannelFields, IsChannel, IsMessageIndex, ChunkIndexFields, IsChunkIndex, IsFooter}
use Rattle.mcap_model.specs.Scan.{Seen, is_message_top, InRange, IsAsked, ComesBefore}
use Rattle.mcap_model.specs.Whole.{AreShort}

-- ---- the summary

-- the Footer is the last record, in front of the magic, and from the offset that it names up to it stand these records
pub record HasSummary (file : List ℕ) (start : ℕ) (summary : List Top) : Type 0 where
  pub footer : Top
  pub offsets : ℕ
  pub crc : ℕ
  pub is : IsFooter footer start offsets crc
  pub last : drop (length file - 37) file ≡ top_bytes footer ++ magic
  pub some : start ≢ 0
  pub records : part start (length file - 37) file ≡ spelled summary
  pub short : AreShort summary

-- the first Channel of that id has that topic
pub record FirstTopic (summary : List Top) (channel : ℕ) (topic : List ℕ) : Type 0 where
  pub place : ℕ
  pub top : Top
  pub shown : ChannelFields
  pub at : At summary place top
  pub is : IsChannel top channel shown
  pub first : Each (λ u. (f : ChannelFields) → IsChannel u channel f → ⊥) (take place summary)
  pub topic_is : shown.topic ≡ topic

-- ---- where it leads

-- this record stands in the file at that offset, and its length can be declared
pub record IsThere (file : List ℕ) (offset : ℕ) (t : Top) : Type 0 where
  pub stands : StandsIn file offset t
  pub short : length t.content < 2 ^ 64

-- The message stands in the chunk at that offset, whose records begin behind its first 49 bytes.
pub record IsInChunk (file : List ℕ) (chunk : ℕ) (s : Seen) : Type 0 where
  pub place : s.place.top ≡ chunk
  pub top : Top
  pub there : IsThere file (chunk + 49 + s.place.inner) top
  pub is : IsMessage top s.channel s.message

-- At that offset stands a Message Index of the message's channel, with an entry that leads to it.
pub record LedByIndex (file : List ℕ) (range : Range) (chunk offset : ℕ) (s : Seen) : Type 0 where
  pub list : Top
  pub entries : List (ℕ × ℕ)
  pub there : IsThere file offset list
  pub is : IsMessageIndex list s.channel entries
  pub entry : Has {X = ℕ × ℕ} entries (s.message.log_time, s.place.inner)
  pub in_range : InRange range s.message.log_time
  pub message : IsInChunk file chunk s

-- a time of the index lies in the range
abbrev pub Meets : Range → ChunkIndexFields → Type 0
Meets range f = (time : ℕ) × (f.start ≤ time) × (time ≤ f.end) × InRange range time

-- The Chunk Index meets the range, and its map leads to such a Message Index. The channel is the one that this shows: the
-- id in the map isn't looked at.
pub record LedByChunk (file : List ℕ) (range : Range) (f : ChunkIndexFields) (s : Seen) : Type 0 where
  pub meets : Meets range f
  pub key : ℕ
  pub offset : ℕ
  pub named : Has {X = ℕ × ℕ} f.indexes (key, offset)
  pub led : LedByIndex file range f.offset offset s

-- a Chunk Index of the summary leads to the message, whose topic is that of the first Channel of its id
pub record LedBySummary (file : List ℕ) (range : Range) (summary : List Top) (s : Seen) : Type 0 where
  pub index : Top
  pub shown : ChunkIndexFields
  pub indexed : Has summary index
  pub is : IsChunkIndex index shown
  pub led : LedByChunk file range shown s
  pub topic : FirstTopic summary s.channel s.topic

-- the summary leads to the message
pub record Led (file : List ℕ) (range : Range) (s : Seen) : Type 0 where
  pub start : ℕ
  pub summary : List Top
  pub has : HasSummary file start summary
  pub led : LedBySummary file range summary s

-- just the messages to which the summary leads and that are asked for, in the order of log time and place
pub record LedReplay (file : List ℕ) (range : Range) (topic : Option (List ℕ)) (shown : List Seen) : Type 0 where
  pub rises : AllPairs ComesBefore shown
  pub are : (s : Seen) → Has shown s → Led file range s × IsAsked range topic s
  pub all : (s : Seen) → Led file range s → IsAsked range topic s → Has shown s

-- ---- how much is read

-- the log time of a Message, which stands behind its channel and its sequence number
abbrev pub log_time_in : Top → ℕ
log_time_in t = number (part 6 14 t.content)

abbrev pub is_before : ℕ → Option ℕ → Bool
is_before time None = true
is_before time (Some end) = nat_lt time end

abbrev pub is_timely : Range → Top → Bool
is_timely range t = is_message_top t && (nat_le range.start (log_time_in t) && is_before (log_time_in t) range.end)

-- of a chunk whose times meet the range: its first 49 bytes, its Message Indexes, and its messages in the range
pub record ChunkCosts (file : List ℕ) (range : Range) (f : ChunkIndexFields) (cost : ℕ) : Type 0 where
  pub chunk : Top
  pub there : IsThere file f.offset chunk
  pub met : Meets range f → cost ≡ 49 + f.indexes_size + length (spelled (filter (is_timely range) (inner_tops chunk)))
  pub missed : (Meets range f → ⊥) → cost ≡ 0

-- the magic, the Header, the Footer with the last magic, the summary, and what is read of the chunks
pub record AskedBound (file : List ℕ) (range : Range) (bound : ℕ) : Type 0 where
  pub header : Top
  pub first : IsThere file 8 header
  pub start : ℕ
  pub summary : List Top
  pub has : HasSummary file start summary
  pub indexes : List ChunkIndexFields
  pub are_indexes : AllZip IsChunkIndex (filter (λ t. t.op == chunk_index_opcode) summary) indexes
  pub costs : List ℕ
  pub are_costs : AllZip (ChunkCosts file range) indexes costs
  pub sum_is : bound ≡ 8 + length (top_bytes header) + 37 + length (spelled summary) + sum costs
