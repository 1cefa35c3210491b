-- What playing a file comes to whose parts are loaded.
use Rattle.std.specs.Prelude.{◌≡◌, ◌≢◌, ℕ, List, length, Bool, Option, Some, None, Result, Ok, Err}
use Rattle.mcap_io.specs.Stores.{StoreState}
use Rattle.mcap_model.specs.declared.replay.Range.{Range}
use Rattle.mcap_model.specs.declared.replay.Replayed.{Replayed}
use Rattle.mcap_model.specs.Tops.{Top}
use Rattle.mcap_model.specs.Fields.{StatisticsFields, IsStatistics}
use Rattle.summary_read.specs.Parts.{Parts, IsLoaded}
use Rattle.mcap_model.specs.declared.refusals.NotIndexed.{NotIndexed}
use Rattle.mcap_model.specs.declared.refusals.NotIndexed.TheVariants as lacks
use Rattle.mcap_model.specs.declared.refusals.IndexedRefused.{IndexedRefused}
use Rattle.indexed_replay.specs.Reaching.{AskedBeside}
use Rattle.indexed_replay.specs.Replaying.{FileIsLed}
use Rattle.indexed_replay.specs.Costs.{HasChannelsOn, IndexesCost}
use Rattle.indexed_replay.specs.Played.{PartsAgree}

-- the Statistics states another number of chunks than there are Chunk Indexes
pub record PartsDiffer (parts : Parts) (stated found : ℕ) : Type 0 where
  pub statistics : Top
  pub first : parts.statistics ≡ Some statistics
  pub shown : StatisticsFields
  pub is : IsStatistics statistics shown
  pub stated_is : stated ≡ shown.chunks
  pub found_is : found ≡ length parts.chunk_indexes
  pub differ : stated ≢ found

abbrev pub CountsJudged : Parts → Result Unit NotIndexed → Type 0
CountsJudged parts (Ok it) = PartsAgree parts
CountsJudged parts (Err lacks.NoSummary) = ⊥
CountsJudged parts (Err lacks.NoStatistics) = parts.statistics ≡ None
CountsJudged parts (Err (lacks.ChunkCount stated found)) = PartsDiffer parts stated found
CountsJudged parts (Err (lacks.NoMessageIndex chunk)) = ⊥
CountsJudged parts (Err (lacks.NoChannel id)) = ⊥

-- a file of these parts is played
abbrev pub PlaysLoaded : Option (List ℕ) → Parts → Range → Option (List ℕ) → Result Replayed IndexedRefused → Type 0
PlaysLoaded told parts range topic result =
    (file : List ℕ) → told ≡ Some file → IsLoaded file parts → FileIsLed file range topic result

abbrev pub AsksLoaded : Parts → Range → Option (List ℕ) → StoreState → StoreState → Type 0
AsksLoaded parts range topic old new = (file : List ℕ) (chosen : ℕ → Bool) (cost : ℕ) → old.bytes ≡ Some file
    → IsLoaded file parts → HasChannelsOn file topic chosen → IndexesCost file range chosen parts.chunk_indexes cost
    → AskedBeside file range old.asked new.asked cost
