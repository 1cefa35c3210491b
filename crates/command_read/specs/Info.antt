-- What the telling of a file did: to the names of the world, to both outputs, and how it ended.
use Rattle.std.specs.Prelude.{◌≡◌, ◌⊎◌, ℕ, List, Some, None, Result, Ok, Err}
use Rattle.mcap_io.specs.Outside.{Told}
use Rattle.mcap_io.specs.Stores.{StoreState}
use Rattle.mcap_io.specs.declared.outside.ObjectKind.TheVariants as kinds
use Rattle.mcap_io.specs.declared.outside.OutsideRefused.TheVariants as outside_refusals
use Rattle.mcap_model.specs.declared.refusals.ReadingRefused.{ReadingRefused}
use Rattle.mcap_model.specs.declared.refusals.ReadingRefused.TheVariants as refusals
use Rattle.mcap_model.specs.declared.refusals.NotIndexed.{NotIndexed}
use Rattle.mcap_model.specs.declared.refusals.NotIndexed.TheVariants as lacks
use Rattle.mcap_model.specs.declared.refusals.IndexedRefused.{IndexedRefused}
use Rattle.mcap_model.specs.declared.refusals.IndexedRefused.TheVariants as by_index
use Rattle.summary_read.specs.Parts.{Parts, IsLoaded}
use Rattle.summary_read.specs.Loading.{IsLoadRefused, Loads, LoadCause, AskedFor}
use Rattle.command_base.specs.declared.statuses.Status.{Status}
use Rattle.command_base.specs.declared.statuses.Status.TheVariants as statuses
use Rattle.command_base.specs.declared.file_reading.Reading.{Reading}
use Rattle.command_base.specs.declared.file_reading.Reading.TheVariants as readings
use Rattle.command_base.specs.Printing.{TellsAll}
use Rattle.command_base.specs.Ran.{Scene, counts_in, AnyRose}
use Rattle.command_base.specs.OneFile.{Ending, indexed_ending}
use Rattle.command_base.specs.Readings.{ending_of, StoreUse, IsStoreRead, ReadsFile}
use Rattle.command_read.specs.Told.{InfoText}

-- ---- the file

-- the summary was loaded, and no failure was met
pub record HasLoaded (store : StoreState) (now : StoreUse) (parts : Parts) : Type 0 where
  pub loads : Loads store.bytes (Ok parts)
  pub still : now.faults ≡ store.faults

-- it wasn't, for that reason
abbrev pub LoadIsRefused : StoreState → StoreUse → IndexedRefused → Type 0
LoadIsRefused store now why = Loads store.bytes (Err why) × LoadCause {P = Parts} store.faults now.faults (Err why)

-- there is no summary, or it was loaded and has no Statistics
abbrev pub LacksStatistics : StoreState → StoreUse → NotIndexed → Type 0
LacksStatistics store now lacks.NoSummary = LoadIsRefused store now (by_index.NotIndexed lacks.NoSummary)
LacksStatistics store now lacks.NoStatistics = (parts : Parts) × HasLoaded store now parts × (parts.statistics ≡ None)
LacksStatistics store now (lacks.ChunkCount stated found) = ⊥
LacksStatistics store now (lacks.NoMessageIndex chunk) = ⊥
LacksStatistics store now (lacks.NoChannel id) = ⊥

-- there is no summary to be loaded; or memory lacked for that, or for the line of one that was
abbrev pub IsSummaryUnread : StoreState → StoreUse → ReadingRefused → Type 0
IsSummaryUnread store now (refusals.Fault faults) = LoadIsRefused store now (by_index.Refused (refusals.Fault faults))
IsSummaryUnread store now (refusals.Grammar offset rule) =
    LoadIsRefused store now (by_index.Refused (refusals.Grammar offset rule))
IsSummaryUnread store now (refusals.Compressed offset name) = ⊥
IsSummaryUnread store now (refusals.Limit offset) = LoadIsRefused store now (by_index.Refused (refusals.Limit offset))
IsSummaryUnread store now refusals.Memory =
    LoadIsRefused store now (by_index.Refused refusals.Memory) ⊎ ((parts : Parts) × HasLoaded store now parts)

-- what was found of it
abbrev pub FindsInfo : StoreState → StoreUse → Result (List ℕ) IndexedRefused → Type 0
FindsInfo store now (Ok text) = (parts : Parts) × HasLoaded store now parts × InfoText parts text
FindsInfo store now (Err (by_index.NotIndexed why)) = LacksStatistics store now why
FindsInfo store now (Err (by_index.Refused why)) = IsSummaryUnread store now why

-- what the telling of a store came to: only the ends of the file and its summary were asked for
pub record InfoComesTo (store : StoreState) (now : StoreUse) (came : Result (List ℕ) IndexedRefused) : Type 0 where
  pub finds : FindsInfo store now came
  pub asks : (file : List ℕ) → store.bytes ≡ Some file → AskedFor file store.asked now.asked

-- how that ended
abbrev pub info_ending : List ℕ → Reading (List ℕ) IndexedRefused → Ending
info_ending file reading = ending_of (λ text. text) (indexed_ending file) reading

-- Where nothing failed, what isn't told of them is so by these bytes.
abbrev pub IsUntoldOf : List ℕ → NotIndexed → Type 0
IsUntoldOf bytes lacks.NoSummary = IsLoadRefused bytes (by_index.NotIndexed lacks.NoSummary)
IsUntoldOf bytes lacks.NoStatistics = (parts : Parts) × IsLoaded bytes parts × (parts.statistics ≡ None)
IsUntoldOf bytes (lacks.ChunkCount stated found) = ⊥
IsUntoldOf bytes (lacks.NoMessageIndex chunk) = ⊥
IsUntoldOf bytes (lacks.NoChannel id) = ⊥

abbrev pub IsUnreadOf : List ℕ → ReadingRefused → Type 0
IsUnreadOf bytes (refusals.Fault faults) = ⊥
IsUnreadOf bytes (refusals.Grammar offset rule) = IsLoadRefused bytes (by_index.Refused (refusals.Grammar offset rule))
IsUnreadOf bytes (refusals.Compressed offset name) = ⊥
IsUnreadOf bytes (refusals.Limit offset) = IsLoadRefused bytes (by_index.Refused (refusals.Limit offset))
IsUnreadOf bytes refusals.Memory = Unit {0}

-- And so is the line.
abbrev pub DescribesBytes : List ℕ → Reading (List ℕ) IndexedRefused → Type 0
DescribesBytes bytes (readings.Unopened outside_refusals.Failed) = ⊥
DescribesBytes bytes (readings.Unopened outside_refusals.Memory) = Unit {0}
DescribesBytes bytes (readings.Opened (Ok text)) = (parts : Parts) × IsLoaded bytes parts × InfoText parts text
DescribesBytes bytes (readings.Opened (Err (by_index.NotIndexed why))) = IsUntoldOf bytes why
DescribesBytes bytes (readings.Opened (Err (by_index.Refused why))) = IsUnreadOf bytes why

-- ---- the command

-- what `info` does
pub record Describes (file : List ℕ) (old new : Scene) (status : Status) : Type 0 where
  -- the file is read as a store; standard output takes the line, and standard error the troubles
  pub reads : ReadsFile (IsStoreRead InfoComesTo file) kinds.Store file (info_ending file) old new status
  -- where the world tells, the bytes under the name decide what it came to, unless a count rises
  pub decided : (told : Told) (bytes : List ℕ) → old.world.told ≡ Some told → told.names file ≡ Some bytes
      → (AnyRose (counts_in old) (counts_in new) → ⊥) → DescribesBytes bytes reads.reading
  -- that all was done says that all of the line was taken
  pub whole : status ≡ statuses.Done
      → (text : List ℕ) × (reads.reading ≡ readings.Opened (Ok text)) × TellsAll old.out new.out text
