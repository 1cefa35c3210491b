-- What becomes of the name of a file that a command reads: its reading, and how that ended.
use Rattle.std.specs.Prelude.{◌≡◌, ◌⊎◌, ℕ, List, [], ◌∷◌, Result, Ok, Err}
use Rattle.mcap_io.specs.Outside.{SourceState, WorldState, Keeping, Opening, TellsName}
use Rattle.mcap_io.specs.Stores.{StoreState, IsUnused, TellsStore}
use Rattle.mcap_io.specs.declared.outside.ObjectKind.{ObjectKind}
use Rattle.mcap_io.specs.declared.outside.ObjectKind.TheVariants as kinds
use Rattle.mcap_io.specs.declared.outside.OutsideRefused.TheVariants as outside_refusals
use Rattle.command_base.specs.declared.file_reading.Reading.{Reading}
use Rattle.command_base.specs.declared.file_reading.Reading.TheVariants as readings
use Rattle.command_base.specs.declared.statuses.Status.{Status}
use Rattle.command_base.specs.Ran.{Scene, kept, refused}
use Rattle.command_base.specs.OneFile.{Ending, was_read, failing, lacked, ReadsOne}

-- ---- endings

-- the ending of a reading, where this is the text of what was read, and so a refusal ends it
abbrev pub ending_of : {T R : Type 0} → (T → List ℕ) → (R → Ending) → Reading T R → Ending
ending_of text refusal (readings.Unopened outside_refusals.Failed) = failing
ending_of text refusal (readings.Unopened outside_refusals.Memory) = lacked
ending_of text refusal (readings.Opened (Ok what)) = was_read (text what)
ending_of text refusal (readings.Opened (Err why)) = refusal why

-- ---- objects

-- what a store shows when it is taken back: how often it failed, and for how many bytes it was asked
pub record StoreUse : Type 0 where
  pub faults : ℕ
  pub asked : ℕ

abbrev pub store_use : ℕ → ℕ → StoreUse
store_use faults asked = record { faults = faults; asked = asked }

-- the source that was opened under the name told the bytes there, where the world tells; this came of its reading, and it was
-- taken back
pub record SourceUnder {A : Type 0} (Comes : SourceState → SourceState → A → Type 0) (file : List ℕ)
    (world : WorldState) (keeping : Keeping) (came : A) : Type 0 where
  pub source : SourceState
  pub tells : TellsName world file source
  pub unused : source.faults ≡ 0
  pub comes : Comes source (record { left = keeping.left; faults = keeping.faults }) came

-- the same of a store
pub record StoreUnder {A : Type 0} (Comes : StoreState → StoreUse → A → Type 0) (file : List ℕ) (world : WorldState)
    (keeping : Keeping) (came : A) : Type 0 where
  pub store : StoreState
  pub tells : TellsStore world file store
  pub unused : IsUnused store
  pub comes : Comes store (store_use keeping.faults keeping.asked) came

-- ---- names

-- No entry, where memory lacked for the opening; or it was refused; or an object was given and taken back, and of its reading this
-- came.
abbrev pub IsOpened : {T R : Type 0} → ObjectKind → (Keeping → Result T R → Type 0) → List ℕ → List Opening
    → Reading T R → Type 0
IsOpened kind Under file [] reading = reading ≡ readings.Unopened outside_refusals.Memory
IsOpened {T} {R} kind Under file (entry ∷ more) reading = ((entry ≡ refused kind file) × (reading ≡ readings.Unopened outside_refusals.Failed))
    ⊎ ((keeping : Keeping) × (entry ≡ kept kind file keeping) × ((came : Result T R) × (reading ≡ readings.Opened came) × Under keeping came))

-- what the opening of a name as a source came to
abbrev pub IsSourceRead : {T R : Type 0} → (SourceState → SourceState → Result T R → Type 0) → List ℕ → WorldState
    → List Opening → Reading T R → Type 0
IsSourceRead Comes file world entries reading =
    IsOpened kinds.Source (SourceUnder Comes file world) file entries reading

-- and as a store
abbrev pub IsStoreRead : {T R : Type 0} → (StoreState → StoreUse → Result T R → Type 0) → List ℕ → WorldState
    → List Opening → Reading T R → Type 0
IsStoreRead Comes file world entries reading = IsOpened kinds.Store (StoreUnder Comes file world) file entries reading

-- ---- commands

-- What a command did that reads one file: this came of its reading, and it has that text, or so a refusal ends it.
pub record ReadsFile {T R : Type 0} (IsRead : WorldState → List Opening → Reading T R → Type 0) (kind : ObjectKind)
    (file : List ℕ) (ending : Reading T R → Ending) (old new : Scene) (status : Status) : Type 0 where
  -- the file is opened as an object of that kind, and nothing else; this is what its reading came to
  pub entries : List Opening
  pub reading : Reading T R
  pub read : IsRead old.world entries reading
  -- standard output takes the text, and standard error the troubles
  pub ran : ReadsOne kind file old new entries (ending reading) status
