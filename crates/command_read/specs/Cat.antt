-- What the printing of a file did: to the names of the world, to both outputs, and how it ended.
use Rattle.std.specs.Prelude.{◌≡◌, ◌⊎◌, ℕ, List, Option, Some, Result, Ok, Err}
use Rattle.mcap_io.specs.Outside.{SourceState, Told}
use Rattle.mcap_io.specs.declared.outside.ObjectKind.TheVariants as kinds
use Rattle.mcap_model.specs.declared.replay.Range.{Range}
use Rattle.mcap_model.specs.Tops.{Top}
use Rattle.mcap_model.specs.Kept.{Halt, reading_limits, at_end, grammar as breaks, compressed as names, beyond, Halts}
use Rattle.mcap_model.specs.Scan.{Seen, Scan, Replay}
use Rattle.time_player.specs.Text.{cat_text}
use Rattle.mcap_model.specs.declared.refusals.ReadingRefused.{ReadingRefused}
use Rattle.mcap_model.specs.declared.refusals.ReadingRefused.TheVariants as refusals
use Rattle.mcap_scan.specs.RefusedReadings.{HaltsSo, FaultStands, MemoryStands}
use Rattle.command_base.specs.declared.file_reading.Reading.{Reading}
use Rattle.command_base.specs.declared.statuses.Status.{Status}
use Rattle.command_base.specs.declared.statuses.Status.TheVariants as statuses
use Rattle.command_base.specs.Texts.{halt_status}
use Rattle.command_base.specs.Ran.{Scene, counts_in, AnyRose}
use Rattle.command_base.specs.OneFile.{Ending, refusal_ending}
use Rattle.command_base.specs.Readings.{ending_of, IsSourceRead, ReadsFile}

-- which messages are asked for: of these log times, and of that topic, if any
pub record Selection : Type 0 where
  pub range : Range
  pub topic : Option (List ℕ)

abbrev pub selection : Range → Option (List ℕ) → Selection
selection range topic = record { range = range; topic = topic }

-- ---- the file

-- The source was read to its Data End, and these are the lines of the messages that are asked for, in the order of log time
-- and place. Where it told its bytes, this is their reading.
pub record IsPrinted (asked : Selection) (before now : SourceState) (text : List ℕ) : Type 0 where
  pub tops : List Top
  pub end : ℕ
  pub messages : List Seen
  pub shown : List Seen
  pub halts : HaltsSo before now tops (at_end end)
  pub scan : Scan tops messages
  pub replay : Replay asked.range asked.topic messages shown
  pub text_is : text ≡ cat_text shown

-- The reading halted so, behind some records; or the source failed; or memory lacked, behind records that are good or for the
-- lines once all was read.
abbrev pub IsUnprinted : SourceState → SourceState → ReadingRefused → Type 0
IsUnprinted before now (refusals.Fault faults) = (tops : List Top) × FaultStands faults before now tops
IsUnprinted before now (refusals.Grammar n rule) = (tops : List Top) × HaltsSo before now tops (breaks n rule)
IsUnprinted before now (refusals.Compressed n name) = (tops : List Top) × HaltsSo before now tops (names n name)
IsUnprinted before now (refusals.Limit n) = (tops : List Top) × HaltsSo before now tops (beyond n)
IsUnprinted before now refusals.Memory = ((tops : List Top) × MemoryStands before now tops)
    ⊎ ((tops : List Top) × (end : ℕ) × HaltsSo before now tops (at_end end))

-- what the reading of a source came to
abbrev pub ComesTo : Selection → SourceState → SourceState → Result (List ℕ) ReadingRefused → Type 0
ComesTo asked before now (Ok text) = IsPrinted asked before now text
ComesTo asked before now (Err why) = IsUnprinted before now why

-- how that ended
abbrev pub cat_ending : List ℕ → Reading (List ℕ) ReadingRefused → Ending
cat_ending file reading = ending_of (λ text. text) (refusal_ending file) reading

-- ---- the command

-- what `cat` does without `--indexed`
pub record Cats (asked : Selection) (file : List ℕ) (old new : Scene) (status : Status) : Type 0 where
  -- the file is read as a source; standard output takes the lines of the messages, and standard error the troubles
  pub reads : ReadsFile (IsSourceRead (ComesTo asked) file) kinds.Source file (cat_ending file) old new status
  -- where the world tells, the bytes under the name decide the status, unless a count rises or memory lacks
  pub decided : (told : Told) (bytes : List ℕ) (tops : List Top) (halt : Halt) → old.world.told ≡ Some told
      → told.names file ≡ Some bytes → Halts reading_limits bytes tops halt
      → (AnyRose (counts_in old) (counts_in new) → ⊥) → (status ≡ halt_status halt) ⊎ (status ≡ statuses.Memory)
