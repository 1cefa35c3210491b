-- What a replay by the index comes to.
use Rattle.std.specs.Prelude.{◌≡◌, ℕ, List, length, Option, Some, Result, Ok, Err}
use Rattle.rec_index.specs.Records.{chunk_index_opcode, statistics_opcode}
use Rattle.mcap_io.specs.Outside.{RisesOnce}
use Rattle.mcap_model.specs.declared.replay.Range.{Range}
use Rattle.mcap_model.specs.declared.replay.Replayed.{Replayed}
use Rattle.mcap_model.specs.Tops.{Top}
use Rattle.mcap_model.specs.Fields.{StatisticsFields, IsStatistics}
use Rattle.mcap_model.specs.Kept.{reading_limits, at_end, Halts}
use Rattle.mcap_model.specs.Scan.{Seen, Scan, Replay}
use Rattle.mcap_model.specs.Showing.{Shows}
use Rattle.mcap_model.specs.Valid.{IsFullyIndexed}
use Rattle.mcap_model.specs.Led.{HasSummary, LedReplay}
use Rattle.summary_read.specs.Reached.{HasNoSummary}
use Rattle.summary_read.specs.Loading.{IsUnsummed}
use Rattle.summary_read.specs.Parts.{of_kind, first_of_kind}
use Rattle.mcap_model.specs.declared.refusals.ReadingRefused.{ReadingRefused}
use Rattle.mcap_model.specs.declared.refusals.ReadingRefused.TheVariants as refusals
use Rattle.mcap_model.specs.declared.refusals.IndexedRefused.{IndexedRefused}
use Rattle.mcap_model.specs.declared.refusals.IndexedRefused.TheVariants as by_index
use Rattle.indexed_replay.specs.Reaching.{IsNotIndexed, BreaksByIndex, ReachesPacked, LeadsPastLimit}

-- ---- what is answered

-- why what the summary leads to isn't read
abbrev pub IsUnread : List ℕ → Range → ReadingRefused → Type 0
IsUnread file range (refusals.Fault faults) = Unit {0}
IsUnread file range (refusals.Grammar offset rule) = BreaksByIndex file range rule offset
IsUnread file range (refusals.Compressed offset name) = ReachesPacked file range offset name
IsUnread file range (refusals.Limit offset) = LeadsPastLimit file range offset
IsUnread file range refusals.Memory = Unit {0}

-- why a replay is refused
abbrev pub IsReason : List ℕ → Range → IndexedRefused → Type 0
IsReason file range (by_index.NotIndexed why) = IsNotIndexed file range why
IsReason file range (by_index.Refused why) = IsUnread file range why

-- the messages to which the indexes lead are shown
pub record IsLed (file : List ℕ) (range : Range) (topic : Option (List ℕ)) (played : Replayed) : Type 0 where
  pub shown : List Seen
  pub replay : LedReplay file range topic shown
  pub shows : Shows played shown

abbrev pub FileIsLed : List ℕ → Range → Option (List ℕ) → Result Replayed IndexedRefused → Type 0
FileIsLed file range topic (Ok played) = IsLed file range topic played
FileIsLed file range topic (Err why) = IsReason file range why

-- where the store tells its bytes, these are the file
abbrev pub PlaysIndexed : Option (List ℕ) → Range → Option (List ℕ) → Result Replayed IndexedRefused → Type 0
PlaysIndexed told range topic result = (file : List ℕ) → told ≡ Some file → FileIsLed file range topic result

-- ---- what is played

-- the first Statistics of the summary states as many chunks as there are Chunk Indexes
pub record StatesChunks (file : List ℕ) : Type 0 where
  pub start : ℕ
  pub summary : List Top
  pub has : HasSummary file start summary
  pub statistics : Top
  pub first : first_of_kind statistics_opcode summary ≡ Some statistics
  pub shown : StatisticsFields
  pub is : IsStatistics statistics shown
  pub agree : shown.chunks ≡ length (of_kind chunk_index_opcode summary)

abbrev pub PlayedStatesChunks : List ℕ → Result Replayed IndexedRefused → Type 0
PlayedStatesChunks file (Ok played) = StatesChunks file
PlayedStatesChunks file (Err why) = Unit {0}

-- no file is played whose summary lacks the index of a chunk
abbrev pub TellsChunks : Option (List ℕ) → Result Replayed IndexedRefused → Type 0
TellsChunks told result = (file : List ℕ) → told ≡ Some file → PlayedStatesChunks file result

-- ---- files without a summary

-- the answer is that there is no summary, unless the store failed or memory lacked
abbrev pub SaysNoSummary : Result Replayed IndexedRefused → Type 0
SaysNoSummary (Ok played) = ⊥
SaysNoSummary (Err (by_index.NotIndexed why)) = IsUnsummed why
SaysNoSummary (Err (by_index.Refused (refusals.Fault faults))) = Unit {0}
SaysNoSummary (Err (by_index.Refused (refusals.Grammar offset rule))) = ⊥
SaysNoSummary (Err (by_index.Refused (refusals.Compressed offset name))) = ⊥
SaysNoSummary (Err (by_index.Refused (refusals.Limit offset))) = ⊥
SaysNoSummary (Err (by_index.Refused refusals.Memory)) = Unit {0}

abbrev pub TellsNoSummary : Option (List ℕ) → Result Replayed IndexedRefused → Type 0
TellsNoSummary told result = (file : List ℕ) → told ≡ Some file → HasNoSummary file → SaysNoSummary result

-- ---- fully indexed files

abbrev pub IsScanReplayed : Range → Option (List ℕ) → List Seen → Result Replayed IndexedRefused → Type 0
IsScanReplayed range topic messages (Ok played) =
    (shown : List Seen) × Replay range topic messages shown × Shows played shown
IsScanReplayed range topic messages (Err (by_index.NotIndexed why)) = ⊥
IsScanReplayed range topic messages (Err (by_index.Refused (refusals.Fault faults))) = Unit {0}
IsScanReplayed range topic messages (Err (by_index.Refused (refusals.Grammar offset rule))) = ⊥
IsScanReplayed range topic messages (Err (by_index.Refused (refusals.Compressed offset name))) = ⊥
IsScanReplayed range topic messages (Err (by_index.Refused (refusals.Limit offset))) = Unit {0}
IsScanReplayed range topic messages (Err (by_index.Refused refusals.Memory)) = Unit {0}

-- Of a fully indexed file that is read to its Data End the replay of its scan is played, unless the store failed, a limit
-- is passed or memory lacked.
abbrev pub PlaysScan : Option (List ℕ) → Range → Option (List ℕ) → Result Replayed IndexedRefused → Type 0
PlaysScan told range topic result = (file : List ℕ) (tops : List Top) (end : ℕ) (messages : List Seen)
    → told ≡ Some file → IsFullyIndexed file → Halts reading_limits file tops (at_end end) → Scan tops messages
    → IsScanReplayed range topic messages result

-- ---- faults

-- a fault comes where the store failed, and has the count; otherwise the count stands still
abbrev pub RefusedReplayCause : ℕ → ℕ → ReadingRefused → Type 0
RefusedReplayCause before now (refusals.Fault faults) = RisesOnce before now × (faults ≡ now)
RefusedReplayCause before now (refusals.Grammar offset rule) = now ≡ before
RefusedReplayCause before now (refusals.Compressed offset name) = now ≡ before
RefusedReplayCause before now (refusals.Limit offset) = now ≡ before
RefusedReplayCause before now refusals.Memory = now ≡ before

abbrev pub ReplayCause : {P : Type 0} → ℕ → ℕ → Result P IndexedRefused → Type 0
ReplayCause before now (Ok played) = now ≡ before
ReplayCause before now (Err (by_index.NotIndexed why)) = now ≡ before
ReplayCause before now (Err (by_index.Refused why)) = RefusedReplayCause before now why
