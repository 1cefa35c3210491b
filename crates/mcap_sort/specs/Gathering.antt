-- What is held of the input that is sorted, and of the store that it is read from.
use Rattle.std.specs.Prelude.{◌≡◌, ℕ, ◌+◌, ◌≤◌, List, Result, Ok, Err}
use Rattle.mcap_io.specs.Outside.{SourceState}
use Rattle.mcap_io.specs.Stores.{StoreState}
use Rattle.mcap_io.specs.StoreFronts.{WasRead}
use Rattle.mcap_io.specs.StoreSources.{front_left}
use Rattle.mcap_model.specs.Tops.{Top}
use Rattle.mcap_model.specs.Kept.{at_end}
use Rattle.mcap_model.specs.declared.refusals.ReadingRefused.{ReadingRefused}
use Rattle.mcap_scan.specs.RefusedReadings.{HaltsSo, RefusalStands}
use Rattle.mcap_merge.specs.ReadInputs.{Read}
use Rattle.mcap_merge.specs.Inputs.{HoldsInput}
use Rattle.mcap_merge.specs.Reading.{IsReadOf}
use Rattle.mcap_merge.specs.ReadingSteps.{front_source}
use Rattle.mcap_sort.specs.declared.gathering.Gathered.{Gathered}
use Rattle.mcap_sort.specs.Declaring.{NotesFile}
use Rattle.mcap_sort.specs.Sorting.{HaltsReading}

-- these records are good, and this is held of them
pub record HoldsGathered (r : Read) (g : Gathered) : Type 0 where
  pub holds : HoldsInput r g.input
  pub notes : NotesFile r.tops g.declared

-- the source was read to its Data End, or refused behind some records
abbrev pub GathersInput : SourceState → SourceState → Result Gathered ReadingRefused → Type 0
GathersInput before now (Ok g) = (r : Read) × (end : ℕ) × HaltsSo before now r.tops (at_end end) × HoldsGathered r g
GathersInput before now (Err why) = (tops : List Top) × RefusalStands why before now tops

-- the first so many bytes of a store were read, none twice
pub record GathersFront (old : StoreState) (len : ℕ) (new : StoreState) (result : Result Gathered ReadingRefused)
    : Type 0 where
  pub next : ℕ
  pub now : SourceState
  pub was : WasRead old new next len now.faults
  pub left_is : now.left ≡ front_left old.bytes next len
  pub reads : GathersInput (front_source old len) now result

-- a store was read whole
abbrev pub GathersWhole : StoreState → StoreState → Result Gathered ReadingRefused → Type 0
GathersWhole old new (Ok g) = (r : Read) × HoldsGathered r g × IsReadOf old r × (new.faults ≡ old.faults)
GathersWhole old new (Err why) = HaltsReading old new why
