-- What the steps of a replay come to, from the summary on.
use Rattle.std.specs.Prelude.{◌≡◌, ℕ, ◌+◌, ◌≤◌, List, length, Bool, Option, Some}
use Rattle.rec_index.specs.Records.{chunk_index_opcode}
use Rattle.mcap_io.specs.Stores.{StoreState}
use Rattle.mcap_model.specs.declared.replay.Range.{Range}
use Rattle.mcap_model.specs.Tops.{Top, top_bytes, spelled}
use Rattle.mcap_model.specs.Fields.{StatisticsFields, IsStatistics}
use Rattle.mcap_model.specs.Kept.{reading_limits, at_end, Halts}
use Rattle.mcap_model.specs.Valid.{IsFullyIndexed}
use Rattle.mcap_model.specs.Led.{HasSummary, IsThere}
use Rattle.summary_read.specs.Parts.{Parts, IsLoaded, of_kind}
use Rattle.summary_read.specs.Loading.{AskedFor}
use Rattle.indexed_replay.specs.Reaching.{AskedBeside}
use Rattle.indexed_replay.specs.Costs.{HasChannelsOn, IndexesCost}
use Rattle.indexed_replay.specs.Bounds.{AskedBound}

-- ---- counts

-- the Statistics states as many chunks as there are Chunk Indexes
pub record PartsAgree (parts : Parts) : Type 0 where
  pub statistics : Top
  pub first : parts.statistics ≡ Some statistics
  pub shown : StatisticsFields
  pub is : IsStatistics statistics shown
  pub agree : shown.chunks ≡ length parts.chunk_indexes

-- ---- what is asked for

-- Where these are the records of the summary and the Header, and this is what the Chunk Indexes cost whose times meet the
-- range, up to the first at which a replay ends, no more is asked for than these, the magic and the Footer with the last magic,
-- and what is asked for beside. Of messages those alone count whose channels are on the topic that is asked for.
abbrev pub AsksIndexed : Range → Option (List ℕ) → StoreState → StoreState → Type 0
AsksIndexed range topic old new =
    (file : List ℕ) (start : ℕ) (summary : List Top) (header : Top) (chosen : ℕ → Bool) (cost : ℕ)
    → old.bytes ≡ Some file → HasSummary file start summary → IsThere file 8 header → HasChannelsOn file topic chosen
    → IndexesCost file range chosen (of_kind chunk_index_opcode summary) cost
    → AskedBeside file range old.asked new.asked (8 + length (top_bytes header) + 37 + length (spelled summary) + cost)

-- Of a file whose summary can't be loaded, or doesn't state as many chunks as it has Chunk Indexes, no more is asked for than
-- by loading.
abbrev pub AsksUnloaded : StoreState → StoreState → Type 0
AsksUnloaded old new = (file : List ℕ) → old.bytes ≡ Some file → ((p : Parts) → IsLoaded file p → PartsAgree p → ⊥)
    → AskedFor file old.asked new.asked

-- Of a fully indexed file that is read to its Data End no more is asked for than these, and of each chunk whose times meet
-- the range its first 49 bytes, its Message Indexes and those of its messages in the range whose channels are on the topic.
abbrev pub AsksBound : Range → Option (List ℕ) → StoreState → StoreState → Type 0
AsksBound range topic old new =
    (file : List ℕ) (tops : List Top) (end : ℕ) (chosen : ℕ → Bool) (bound : ℕ) → old.bytes ≡ Some file
    → IsFullyIndexed file → Halts reading_limits file tops (at_end end) → HasChannelsOn file topic chosen
    → AskedBound file range chosen bound → new.asked ≤ old.asked + bound
