-- What stands for the records of a source that is read, and how its reading ended.
use Rattle.std.specs.Prelude.{◌≡◌, ◌⊎◌, ℕ, ◌≤◌, List, [], ◌∷◌, ◌++◌, length, filter, fold, Some, Option}
use Rattle.std.specs.List.{AllZip}
use Rattle.mcap_wire.specs.Layout.{content_limit}
use Rattle.rec_data.specs.declared.owned.Rec.{Rec}
use Rattle.mcap_io.specs.Outside.{SourceState}
use Rattle.mcap_model.specs.Tops.{Top, Placed, Begins, is_flat_kind}
use Rattle.mcap_model.specs.Kept.{Good, Kept, reading_limits}
use Rattle.mcap_model.specs.History.{kept_with, without_repeats}
use Rattle.mcap_model.specs.Written.{IsRec}
use Rattle.mcap_model.specs.Repaired.{is_extra, ProfileIs, Repairs}
use Rattle.mcap_scan.specs.declared.reader.Reader.{Reader}
use Rattle.mcap_scan.specs.Sources.{ReadFromFront}
use Rattle.mcap_scan.specs.declared.flat_reader.FlatReader.{FlatReader}
use Rattle.mcap_scan.specs.Walking.{FlatStands, IsFlatDone}
use Rattle.record_keeping.specs.declared.ending.Over.{Over}
use Rattle.record_keeping.specs.Ending.{OverSo}
use Rattle.record_keeping.specs.Keeping.{extras_of, tops_at}
use Rattle.record_keeping.specs.NewFiles.{HasMagic, StopsAfter}
use denote.Ref.{Bor}

-- nothing is kept of the source's bytes
abbrev pub KeepsNone : SourceState → Type 0
KeepsNone before = (bytes : List ℕ) → before.left ≡ Some bytes → Kept reading_limits bytes []

-- What repairing makes of records of which these were given so far in their places, those inside chunks too; where all were
-- given, it is what repairing makes of the records. Each record at top level that was read was given, and nothing inside a chunk
-- is an extra, so the extras are those at top level.
pub record RepairsGiven (tops : List Top) (given : List Placed) (profile : List ℕ) (extras : List Top)
    (history : List Rec) : Type 0 where
  pub profile_is : ProfileIs (tops_at given) profile
  pub extras_are : extras ≡ filter is_extra tops
  pub flattened : List Rec
  pub are_flattened : AllZip IsRec (filter is_flat_kind (tops_at given)) flattened
  pub history_is : history ≡ without_repeats flattened

-- ---- what stands for the records, by what is said of their extras and history

-- These good records were read, with which the source's bytes begin where it tells them, and this stands for what repairing makes
-- of those that were given, with that profile. The source was in this state before.
pub record ReadSoFar (stands_for : List Top → List Rec → Type 0) (profile : List ℕ) (before now : SourceState)
    (flat : FlatReader) : Type 0 where
  pub tops : List Top
  pub given : List Placed
  pub stands : FlatStands flat before now tops given
  pub good : Good reading_limits tops
  pub read : (bytes : List ℕ) → before.left ≡ Some bytes → Begins bytes tops
  pub magic : HasMagic before
  pub begun : given ≡ [] → IsFlatDone flat × (tops ≡ []) × KeepsNone before
  pub extras : List Top
  pub history : List Rec
  pub repairs : RepairsGiven tops given profile extras history
  pub keeps : stands_for extras history

-- of whatever the first stands for, the second stands for what this record shows or is besides
abbrev pub StandsOn : (List Top → List Rec → Type 0) → (List Top → List Rec → Type 0) → List Top → List Rec
    → Option (Bor (List ℕ)) → Top → Type 0
StandsOn before after extras history frame t = (records : List Rec)
    → AllZip IsRec (filter is_flat_kind (t ∷ [])) records → before extras history
    → after (extras ++ extras_of frame t) (fold kept_with history records)

-- these good records were read, and it stands for what repairing makes of them
pub record ReadWhole (stands_for : List Top → List Rec → Type 0) (profile : List ℕ) (before : SourceState)
    : Type 0 where
  pub tops : List Top
  pub good : Good reading_limits tops
  pub read : (bytes : List ℕ) → before.left ≡ Some bytes → Begins bytes tops
  pub magic : HasMagic before
  pub begun : tops ≡ [] → KeepsNone before
  pub extras : List Top
  pub history : List Rec
  pub repairs : Repairs tops profile extras history
  pub keeps : stands_for extras history

-- the reading came to its end
pub record ReadToEnd (stands_for : List Top → List Rec → Type 0) (profile : List ℕ) (before now : SourceState)
    (reader : Reader) (over : Over) : Type 0 where
  pub kept : ReadWhole stands_for profile before
  pub over_so : OverSo reader before now kept.tops over

-- The writer stopped at what the last of these records shows or holds. Of extras it was given those before. What is ripe of the
-- records before the last one was written, if there are any.
pub record ReadStopped (stands_for : List Top → List Rec → Type 0) (wrote : List Rec → Type 0) (profile : List ℕ)
    (before now : SourceState) : Type 0 where
  pub tops : List Top
  pub good : Good reading_limits tops
  pub read : ReadFromFront before now tops
  pub still : now.faults ≡ before.faults
  pub extras : List Top
  pub history : List Rec
  pub repairs : Repairs tops profile extras history
  pub gathered : List Top
  pub keeps : stands_for gathered history
  pub earlier : List Top
  pub last : Top
  pub are : tops ≡ earlier ++ last ∷ []
  pub ripe : (earlier ≡ [])
      ⊎ ((others : List Top) × (first : List Rec) × Repairs earlier profile others first × wrote first)

-- ---- the first record

-- These first ones of the source's records are a Header or none, and repairing makes nothing of them but that profile. No more
-- was read; or the reading was over before, as is handed in.
pub record FirstShows (over : List Top → Type 0) (before now : SourceState) (profile : List ℕ) : Type 0 where
  pub first : List Top
  pub good : Good reading_limits first
  pub stopped : StopsAfter (ReadFromFront before now) over [] first
  pub none : first ≡ [] → KeepsNone before
  pub repairs : Repairs first profile [] []

-- the profile that is written, of a Header or none, behind which the reading goes on
pub record BeginsFile (over : List Top → Type 0) (before now : SourceState) (flat : FlatReader) (profile : List ℕ)
    : Type 0 where
  pub tops : List Top
  pub given : List Placed
  pub stands : FlatStands flat before now tops given
  pub good : Good reading_limits tops
  pub read : (bytes : List ℕ) → before.left ≡ Some bytes → Begins bytes tops
  pub magic : HasMagic before
  pub begun : given ≡ [] → IsFlatDone flat × (tops ≡ []) × KeepsNone before
  pub repairs : RepairsGiven tops given profile [] []
  pub shows : FirstShows over before now profile
  pub short : length profile ≤ content_limit
  pub still : now.faults ≡ before.faults
