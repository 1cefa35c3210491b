-- What a recovery leaves, and what it answers.
use Rattle.std.specs.Prelude.{◌≡◌, ◌⊎◌, ℕ, List, Option, Some, length, filter, None, Result, Ok, Err}
use Rattle.mcap_io.specs.Outside.{SourceState, LiveState, Adds}
use Rattle.mcap_model.specs.declared.refusals.ReadingRefused.TheVariants as scans
use Rattle.mcap_recover.specs.declared.answers.RecoverRefused.{RecoverRefused}
use Rattle.mcap_recover.specs.declared.answers.RecoverRefused.TheVariants as refusals
use Rattle.rec_data.specs.declared.owned.Rec.{Rec}
use Rattle.mcap_model.specs.declared.ends.Stop.{Stop}
use Rattle.mcap_model.specs.declared.refusals.ReadingRefused.{ReadingRefused}
use Rattle.mcap_model.specs.Tops.{Top}
use Rattle.mcap_model.specs.Kept.{Good, reading_limits, Halt, Halts, at_end, grammar, compressed, beyond}
use Rattle.mcap_model.specs.History.{is_message}
use Rattle.mcap_model.specs.Blocks.{pieces_of, blocks_in}
use Rattle.mcap_model.specs.File.{file_of}
use Rattle.mcap_model.specs.Repaired.{Repairs}
use Rattle.mcap_model.specs.declared.rules.Rule.{Rule}
use Rattle.mcap_model.specs.declared.rules.Rule.TheVariants as rules
use Rattle.mcap_scan.specs.RefusedReadings.{HaltsSo, FaultStands, MemoryStands}
use Rattle.mcap_scan.specs.Sources.{ReadFromFront, HaltLeaves, FaultLeaves, MemoryLeaves}
use Rattle.chunk_writer.specs.Limits.{FileHolds}
use Rattle.chunk_writer.specs.declared.tape.Written.{Written}
use Rattle.chunk_writer.specs.Stops.{StopsAt, StopCause}
use Rattle.record_keeping.specs.NewFiles.{HasMagic, LacksMagic, recovered_options, OfRepaired, StandsPart, FaultsStill, IsUnbegun, Making, making, StandsRipe, CutShort}
use Rattle.mcap_recover.specs.declared.answers.Why.{Why}
use Rattle.mcap_recover.specs.declared.answers.Why.TheVariants as whys
use Rattle.mcap_recover.specs.declared.answers.Recovered.{Recovered}

-- the answer where memory lacked beside the writer's own
abbrev pub lacks : RecoverRefused
lacks = refusals.Refused scans.Memory

-- the reason that is answered is that of the halt
abbrev pub TellsHalt : ℕ → Why → Halt → Type 0
TellsHalt at whys.Complete halt = halt ≡ at_end at
TellsHalt at whys.Short halt = halt ≡ grammar at rules.V4
TellsHalt at whys.Grammar halt = (rule : Rule) × (halt ≡ grammar at rule) × (rule ≡ rules.V4 → ⊥)
TellsHalt at whys.Compressed halt = (name : List ℕ) × (halt ≡ compressed at name)
TellsHalt at whys.Limit halt = halt ≡ beyond at

-- The source was read to where a reading of it halts. Behind what the store held stands the file of what repairing makes of
-- the records that the reading keeps, which are good ones also where the source tells nothing, and the counts are theirs. All
-- of the file is with the system.
pub record IsRecovered (chunk : ℕ) (before now : SourceState) (opened stored : LiveState) (r : Recovered) : Type 0 where
  pub tops : List Top
  pub good : Good reading_limits tops
  pub halt : Halt
  pub halts : HaltsSo before now tops halt
  pub magic : HasMagic before
  pub told : TellsHalt r.at r.why halt
  pub profile : List ℕ
  pub extras : List Top
  pub history : List Rec
  pub repairs : Repairs tops profile extras history
  pub file : Adds opened.held stored.held (file_of (recovered_options profile chunk) extras history)
  pub within : FileHolds profile (blocks_in (pieces_of (Some chunk) None history)) (length
      (file_of (recovered_options profile chunk) extras history))
  pub messages : r.messages ≡ length (filter is_message history)
  pub records : r.records ≡ length history
  pub extras_are : r.extras ≡ length extras
  pub still : stored.faults ≡ opened.faults
  pub through : stored.waiting ≡ 0

-- The reading broke off behind these records: the source failed, its count rose by one, and it is the one which is told; or memory
-- lacked. Of a source that told its bytes a reading of those that it gave keeps just these records, and where memory lacked at
-- most one more. Nothing else that halts a reading is a refusal.
abbrev pub BreaksOff : ReadingRefused → SourceState → SourceState → List Top → Type 0
BreaksOff (scans.Fault faults) before now tops = FaultStands faults before now tops
BreaksOff (scans.Grammar offset rule) before now tops = ⊥
BreaksOff (scans.Compressed offset name) before now tops = ⊥
BreaksOff (scans.Limit offset) before now tops = ⊥
BreaksOff scans.Memory before now tops = MemoryStands before now tops

-- what is left of these bytes, where a reading broke off behind these records: the source failed, or memory lacked
abbrev pub BreaksOffLeaving : ReadingRefused → List ℕ → List Top → Option (List ℕ) → Type 0
BreaksOffLeaving (scans.Fault faults) bytes tops left = FaultLeaves bytes tops left
BreaksOffLeaving (scans.Grammar offset rule) bytes tops left = ⊥
BreaksOffLeaving (scans.Compressed offset name) bytes tops left = ⊥
BreaksOffLeaving (scans.Limit offset) bytes tops left = ⊥
BreaksOffLeaving scans.Memory bytes tops left = MemoryLeaves bytes tops left

-- all of a history is written
abbrev pub all_of : List Rec → List Rec
all_of history = history

-- a recovery's file, in chunks of that size
abbrev pub recovered_making : ℕ → Making
recovered_making chunk = making chunk all_of

-- The reading broke off after these good records, and the front and all ripe blocks of them stand in the store, if anything was
-- written. They are a first part of the file that repairing makes of all bytes. The count of the store stands still.
pub record IsUnrecovered (chunk : ℕ) (before now : SourceState) (opened stored : LiveState) (why : ReadingRefused)
    : Type 0 where
  pub tops : List Top
  pub good : Good reading_limits tops
  pub broken : BreaksOff why before now tops
  pub still : stored.faults ≡ opened.faults
  pub keeps : (IsUnbegun why (ReadFromFront before now) tops × (stored ≡ opened))
      ⊎ (HasMagic before × StandsRipe (recovered_making chunk) tops opened stored)
  pub part : OfRepaired chunk before (StandsPart opened stored)

-- a reading of the source halts after these records
abbrev pub HasHalted : SourceState → SourceState → List Top → Type 0
HasHalted before now tops = (halt : Halt) × HaltsSo before now tops halt

-- the same of its bytes, where they are told: a reading halts after these records, and this is left
abbrev pub HaltedBytes : List ℕ → Option (List ℕ) → List Top → Type 0
HaltedBytes bytes left tops = (halt : Halt) × Halts reading_limits bytes tops halt × HaltLeaves bytes tops halt left

-- The writer stopped at a piece of the file, after all that is ripe of the records before the one at hand: the count of the store
-- rose by one where it failed, and is the one which is told, and stands still else. That of the source stands still.
pub record IsUnwritten (chunk : ℕ) (before now : SourceState) (opened stored : LiveState) (stop : Stop) : Type 0 where
  pub source : now.faults ≡ before.faults
  pub store : StopCause opened.faults stored.faults stop
  pub magic : HasMagic before
  pub written : Written
  pub cut : CutShort (recovered_making chunk) (ReadFromFront before now) (HasHalted before now) opened.held stored.held stop
      written
  pub stops : OfRepaired chunk before (λ options extras history. StopsAt options extras history opened.held
      stored.held stop written)

abbrev pub Recovers : ℕ → SourceState → SourceState → LiveState → LiveState → Result Recovered RecoverRefused → Type 0
Recovers chunk before now opened stored (Ok r) = IsRecovered chunk before now opened stored r
Recovers chunk before now opened stored (Err refusals.NoMagic) =
    LacksMagic before × FaultsStill before now opened stored × (stored ≡ opened)
Recovers chunk before now opened stored (Err (refusals.Refused why)) = IsUnrecovered chunk before now opened stored why
Recovers chunk before now opened stored (Err (refusals.Stopped stop)) = IsUnwritten chunk before now opened stored stop
