-- What a filtering leaves, and what it answers.
use Rattle.std.specs.Prelude.{◌≡◌, ◌⊎◌, ℕ, List, length, filter, Option, Some, None, Result, Ok, Err}
use Rattle.rec_data.specs.declared.owned.Rec.{Rec}
use Rattle.mcap_io.specs.Outside.{SourceState, LiveState, Adds}
use Rattle.mcap_model.specs.declared.ends.Stop.{Stop}
use Rattle.mcap_model.specs.declared.refusals.ReadingRefused.{ReadingRefused}
use Rattle.mcap_model.specs.declared.refusals.ReadingRefused.TheVariants as scans
use Rattle.mcap_model.specs.Tops.{Top}
use Rattle.mcap_model.specs.Kept.{Good, Halts, reading_limits, at_end, grammar, compressed, beyond}
use Rattle.mcap_model.specs.History.{is_message}
use Rattle.mcap_model.specs.Blocks.{pieces_of, blocks_in}
use Rattle.mcap_model.specs.File.{file_of}
use Rattle.mcap_model.specs.Repaired.{Repairs}
use Rattle.mcap_scan.specs.RefusedReadings.{HaltsSo, FaultStands, MemoryStands}
use Rattle.mcap_scan.specs.Sources.{ReadFromFront, HaltLeaves, FaultLeaves, MemoryLeaves}
use Rattle.chunk_writer.specs.Limits.{FileHolds}
use Rattle.chunk_writer.specs.declared.tape.Written.{Written}
use Rattle.chunk_writer.specs.Stops.{StopsAt, StopCause}
use Rattle.record_keeping.specs.NewFiles.{HasMagic, recovered_options, OfRepaired, StandsPart, IsUnbegun, Making, making, StandsRipe, CutShort}
use Rattle.mcap_filter.specs.declared.answers.Picked.{Picked}
use Rattle.mcap_filter.specs.declared.answers.PickRefused.{PickRefused}
use Rattle.mcap_filter.specs.declared.answers.PickRefused.TheVariants as refusals
use Rattle.mcap_filter.specs.Picked.{Asking, filtered}

-- The source was read to its Data End. Behind what the store held stands the file of what is written of the history that repairing
-- makes of its records, with their profile and extras, and the counts are those of what is written. All of the file is with the
-- system.
pub record IsFiltered (a : Asking) (chunk : ℕ) (before now : SourceState) (opened stored : LiveState) (p : Picked)
    : Type 0 where
  pub tops : List Top
  pub good : Good reading_limits tops
  pub end : ℕ
  pub halts : HaltsSo before now tops (at_end end)
  pub magic : HasMagic before
  pub profile : List ℕ
  pub extras : List Top
  pub history : List Rec
  pub repairs : Repairs tops profile extras history
  pub file : Adds opened.held stored.held (file_of (recovered_options profile chunk) extras (filtered a history))
  pub within : FileHolds profile (blocks_in (pieces_of (Some chunk) None (filtered a history))) (length
      (file_of (recovered_options profile chunk) extras (filtered a history)))
  pub messages : p.messages ≡ length (filter is_message (filtered a history))
  pub records : p.records ≡ length (filtered a history)
  pub still : stored.faults ≡ opened.faults
  pub through : stored.waiting ≡ 0

-- a filter's file, in chunks of that size
abbrev pub filtered_making : Asking → ℕ → Making
filtered_making a chunk = making chunk (filtered a)

-- Why the source wasn't read to its Data End, after these records: it failed, its count rose by one, and it is the one which is told;
-- a reading of it halts there, and its count stands still; or memory lacked.
abbrev pub UnreadCause : ReadingRefused → SourceState → SourceState → List Top → Type 0
UnreadCause (scans.Fault faults) before now tops = FaultStands faults before now tops
UnreadCause (scans.Grammar offset rule) before now tops = HaltsSo before now tops (grammar offset rule)
UnreadCause (scans.Compressed offset name) before now tops = HaltsSo before now tops (compressed offset name)
UnreadCause (scans.Limit offset) before now tops = HaltsSo before now tops (beyond offset)
UnreadCause scans.Memory before now tops = MemoryStands before now tops

-- what is left of these bytes, where a reading was refused after these records: it halts there, or the source failed, or memory
-- lacked
abbrev pub RefusalLeaves : ReadingRefused → List ℕ → List Top → Option (List ℕ) → Type 0
RefusalLeaves (scans.Fault faults) bytes tops left = FaultLeaves bytes tops left
RefusalLeaves (scans.Grammar offset rule) bytes tops left =
    Halts reading_limits bytes tops (grammar offset rule) × HaltLeaves bytes tops (grammar offset rule) left
RefusalLeaves (scans.Compressed offset name) bytes tops left =
    Halts reading_limits bytes tops (compressed offset name) × HaltLeaves bytes tops (compressed offset name) left
RefusalLeaves (scans.Limit offset) bytes tops left =
    Halts reading_limits bytes tops (beyond offset) × HaltLeaves bytes tops (beyond offset) left
RefusalLeaves scans.Memory bytes tops left = MemoryLeaves bytes tops left

-- The source wasn't read to its Data End. The front and all ripe blocks of what is written of these good records, which were read,
-- stand in the store, if anything was written. They are a first part of the file that is written of all bytes. The count of the
-- store stands still.
pub record IsUnread (a : Asking) (chunk : ℕ) (before now : SourceState) (opened stored : LiveState)
    (why : ReadingRefused) : Type 0 where
  pub tops : List Top
  pub good : Good reading_limits tops
  pub broken : UnreadCause why before now tops
  pub still : stored.faults ≡ opened.faults
  pub keeps : (IsUnbegun why (ReadFromFront before now) tops × (stored ≡ opened))
      ⊎ (HasMagic before × StandsRipe (filtered_making a chunk) tops opened stored)
  pub part : OfRepaired chunk before (λ options extras history. StandsPart opened stored options extras
      (filtered a history))

-- the source was read to the Data End after these records
abbrev pub HasEnded : SourceState → SourceState → List Top → Type 0
HasEnded before now tops = (end : ℕ) × HaltsSo before now tops (at_end end)

-- the same of its bytes, where they are told, of which this is left
abbrev pub EndedBytes : List ℕ → Option (List ℕ) → List Top → Type 0
EndedBytes bytes left tops =
    (end : ℕ) × Halts reading_limits bytes tops (at_end end) × HaltLeaves bytes tops (at_end end) left

-- The writer stopped at a piece of the file, after all that is ripe of what is written of the records before the one at hand: the
-- count of the store rose by one where it failed, and is the one which is told, and stands still else. That of the source stands
-- still.
pub record IsUnfiled (a : Asking) (chunk : ℕ) (before now : SourceState) (opened stored : LiveState) (stop : Stop)
    : Type 0 where
  pub source : now.faults ≡ before.faults
  pub store : StopCause opened.faults stored.faults stop
  pub magic : HasMagic before
  pub written : Written
  pub cut : CutShort (filtered_making a chunk) (ReadFromFront before now) (HasEnded before now) opened.held stored.held stop
      written
  pub stops : OfRepaired chunk before (λ options extras history. StopsAt options extras (filtered a history) opened.held
      stored.held stop written)

abbrev pub Filters : Asking → ℕ → SourceState → SourceState → LiveState → LiveState → Result Picked PickRefused
    → Type 0
Filters a chunk before now opened stored (Ok p) = IsFiltered a chunk before now opened stored p
Filters a chunk before now opened stored (Err (refusals.Refused why)) = IsUnread a chunk before now opened stored why
Filters a chunk before now opened stored (Err (refusals.Stopped stop)) = IsUnfiled a chunk before now opened stored stop
