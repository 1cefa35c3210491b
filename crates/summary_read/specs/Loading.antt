-- What loading comes to.
use Rattle.std.specs.Prelude.{◌≡◌, ◌⊎◌, ℕ, ◌+◌, ◌-◌, ◌≤◌, List, length, drop, Option, Some, Result, Ok, Err}
use Rattle.mcap_io.specs.Outside.{RisesOnce}
use Rattle.mcap_model.specs.Tops.{declared_length}
use Rattle.mcap_model.specs.declared.refusals.ReadingRefused.{ReadingRefused}
use Rattle.mcap_model.specs.declared.refusals.ReadingRefused.TheVariants as refusals
use Rattle.mcap_model.specs.declared.refusals.NotIndexed.{NotIndexed}
use Rattle.mcap_model.specs.declared.refusals.NotIndexed.TheVariants as lacks
use Rattle.mcap_model.specs.declared.refusals.IndexedRefused.{IndexedRefused}
use Rattle.mcap_model.specs.declared.refusals.IndexedRefused.TheVariants as by_index
use Rattle.summary_read.specs.Reached.{HasNoSummary, SummaryStartsAt, FailsLoading, Passes}
use Rattle.summary_read.specs.Parts.{Parts, IsLoaded}

-- no other reason than that there is no summary
abbrev pub IsUnsummed : NotIndexed → Type 0
IsUnsummed lacks.NoSummary = Unit {0}
IsUnsummed lacks.NoStatistics = ⊥
IsUnsummed (lacks.ChunkCount stated found) = ⊥
IsUnsummed (lacks.NoMessageIndex chunk) = ⊥
IsUnsummed (lacks.NoChannel id) = ⊥

-- why a file isn't loaded whose Footer doesn't say that there is no summary
abbrev pub IsUnloaded : List ℕ → ReadingRefused → Type 0
IsUnloaded file (refusals.Fault faults) = Unit {0}
IsUnloaded file (refusals.Grammar offset rule) = FailsLoading file rule offset × (HasNoSummary file → ⊥)
IsUnloaded file (refusals.Compressed offset name) = ⊥
IsUnloaded file (refusals.Limit offset) = Passes file offset × (HasNoSummary file → ⊥)
IsUnloaded file refusals.Memory = Unit {0}

-- why a file isn't loaded
abbrev pub IsLoadRefused : List ℕ → IndexedRefused → Type 0
IsLoadRefused file (by_index.NotIndexed why) = IsUnsummed why × HasNoSummary file
IsLoadRefused file (by_index.Refused why) = IsUnloaded file why

abbrev pub LoadsFile : List ℕ → Result Parts IndexedRefused → Type 0
LoadsFile file (Ok parts) = IsLoaded file parts × (HasNoSummary file → ⊥)
LoadsFile file (Err why) = IsLoadRefused file why

-- where the store tells its bytes, these are the file
abbrev pub Loads : Option (List ℕ) → Result Parts IndexedRefused → Type 0
Loads told result = (file : List ℕ) → told ≡ Some file → LoadsFile file result

-- A fault comes where the store failed, and has the count; otherwise the count stands still. No compression is told.
abbrev pub PlainCause : ℕ → ℕ → ReadingRefused → Type 0
PlainCause before now (refusals.Fault faults) = RisesOnce before now × (faults ≡ now)
PlainCause before now (refusals.Grammar offset rule) = now ≡ before
PlainCause before now (refusals.Compressed offset name) = ⊥
PlainCause before now (refusals.Limit offset) = now ≡ before
PlainCause before now refusals.Memory = now ≡ before

-- so it is of a loading, by which a file is only said not to be indexed where it has no summary
abbrev pub LoadCause : {P : Type 0} → ℕ → ℕ → Result P IndexedRefused → Type 0
LoadCause before now (Ok parts) = now ≡ before
LoadCause before now (Err (by_index.NotIndexed why)) = IsUnsummed why × (now ≡ before)
LoadCause before now (Err (by_index.Refused why)) = PlainCause before now why

-- The bytes that were asked for: at most the last 37 and the first eight; or the last 37, the magic with the head of the
-- Header, the content that the Header declares, and the summary.
abbrev pub AskedFor : List ℕ → ℕ → ℕ → Type 0
AskedFor file before now = (now ≤ before + 45)
    ⊎ ((start : ℕ) × SummaryStartsAt file start × (now ≤ before + 54 + declared_length (drop 8 file) + (length file - 37 - start)))
