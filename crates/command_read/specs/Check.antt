-- What the check of a file did: to the names of the world, to both outputs, and how it ended.
use Rattle.std.specs.Prelude.{◌≡◌, ◌⊎◌, ◌+◌, ◌≤◌, ℕ, List, ◌++◌, length, codes, decimal, Some, Result, Ok, Err}
use Rattle.mcap_io.specs.Outside.{Told}
use Rattle.mcap_io.specs.Stores.{StoreState}
use Rattle.mcap_io.specs.declared.outside.ObjectKind.TheVariants as kinds
use Rattle.mcap_io.specs.declared.outside.OutsideRefused.TheVariants as outside_refusals
use Rattle.mcap_model.specs.declared.checked.Counts.{Counts as Numbers}
use Rattle.mcap_model.specs.declared.checked.Verdict.{Verdict}
use Rattle.mcap_model.specs.declared.checked.Verdict.TheVariants as verdicts
use Rattle.mcap_model.specs.declared.refusals.ReadingRefused.{ReadingRefused}
use Rattle.mcap_model.specs.declared.refusals.ReadingRefused.TheVariants as refusals
use Rattle.mcap_model.specs.RuleNumbers.{rule_number}
use Rattle.mcap_model.specs.declared.rules.Rule.{Rule}
use Rattle.mcap_model.specs.Kept.{compressed as names}
use Rattle.file_check.specs.Checking.{IsSo, HaltsBefore, MeetsReadingLimit, Checks, CheckCause, margin}
use Rattle.file_check.specs.CutFiles.{TellsUnbegun, TellsCutFile}
use Rattle.file_check.specs.Lacking.{TellsLack}
use Rattle.command_base.specs.declared.file_reading.Reading.{Reading}
use Rattle.command_base.specs.declared.file_reading.Reading.TheVariants as readings
use Rattle.command_base.specs.declared.statuses.Status.{Status}
use Rattle.command_base.specs.declared.statuses.Status.TheVariants as statuses
use Rattle.command_base.specs.Printing.{TellsAll}
use Rattle.command_base.specs.Ran.{Scene, counts_in, AnyRose}
use Rattle.command_base.specs.OneFile.{Ending, refusal_ending, AskedRose}
use Rattle.command_base.specs.Readings.{ending_of, StoreUse, IsStoreRead, ReadsFile}

-- ---- the file

-- the bytes of the store, where it told them, have this answer, which says what ends them where one of the magics is missing,
-- and not that memory lacked where what was read of the data section shows another reason; its count says whether it failed;
-- and it was asked for little more than its bytes
pub record HasAnswer (store : StoreState) (now : StoreUse) (answer : Result Verdict ReadingRefused) : Type 0 where
  pub checks : Checks store.bytes answer
  pub begun : TellsUnbegun store.bytes answer
  pub cut : TellsCutFile store.bytes answer
  pub lacks : TellsLack store now.asked answer
  pub cause : CheckCause store.faults now.faults answer
  pub asks : (file : List ℕ) → store.bytes ≡ Some file → now.asked ≤ store.asked + (length file + margin)

-- ---- the line

-- a number behind its name
unfoldable pub named_number : List ℕ → ℕ → List ℕ
named_number name n = name ++ decimal n

-- ok KIND messages=A channels=B schemas=C chunks=D attachments=E metadata=F
unfoldable pub counts_line : List ℕ → Numbers → List ℕ
counts_line kind n = kind
    ++ (named_number (codes " messages=") n.messages
    ++ (named_number (codes " channels=") n.channels
    ++ (named_number (codes " schemas=") n.schemas
    ++ (named_number (codes " chunks=") n.chunks
    ++ (named_number (codes " attachments=") n.attachments ++ (named_number (codes " metadata=") n.metadata ++ codes "\n"))))))

-- flaw Vk at N
unfoldable pub flaw_line : Rule → ℕ → List ℕ
flaw_line rule offset =
    codes "flaw V" ++ (decimal (rule_number rule) ++ (codes " at " ++ (decimal offset ++ codes "\n")))

abbrev pub verdict_line : Verdict → List ℕ
verdict_line (verdicts.Indexed n) = counts_line (codes "ok indexed") n
verdict_line (verdicts.Plain n) = counts_line (codes "ok plain") n
verdict_line (verdicts.Flawed rule offset) = flaw_line rule offset

-- how the check ended
abbrev pub check_ending : List ℕ → Reading Verdict ReadingRefused → Ending
check_ending file reading = ending_of verdict_line (refusal_ending file) reading

-- ---- the status

-- that of a verdict: a refusal where it is a flaw
abbrev pub verdict_status : Verdict → Status
verdict_status (verdicts.Indexed n) = statuses.Done
verdict_status (verdicts.Plain n) = statuses.Done
verdict_status (verdicts.Flawed rule offset) = statuses.Refused

abbrev pub reading_status : Reading Verdict ReadingRefused → Status
reading_status (readings.Unopened why) = statuses.Done
reading_status (readings.Opened (Ok verdict)) = verdict_status verdict
reading_status (readings.Opened (Err why)) = statuses.Done

-- A flaw is told on standard output, so that the troubles don't ask for its status: it is that of what is free of troubles.
abbrev pub final_status : Status → Status → Status
final_status statuses.Done own = own
final_status statuses.Refused own = statuses.Refused
final_status statuses.Fault own = statuses.Fault
final_status statuses.Limit own = statuses.Limit
final_status statuses.Memory own = statuses.Memory

-- Where nothing failed, what came of the check is so by these bytes, and decides the status.
abbrev pub Decides : List ℕ → Reading Verdict ReadingRefused → Status → Type 0
Decides bytes (readings.Unopened outside_refusals.Failed) status = ⊥
Decides bytes (readings.Unopened outside_refusals.Memory) status = status ≡ statuses.Memory
Decides bytes (readings.Opened (Ok verdict)) status = IsSo bytes verdict × (status ≡ verdict_status verdict)
Decides bytes (readings.Opened (Err (refusals.Fault faults))) status = ⊥
Decides bytes (readings.Opened (Err (refusals.Grammar n rule))) status = ⊥
Decides bytes (readings.Opened (Err (refusals.Compressed n name))) status =
    HaltsBefore bytes (names n name) × (status ≡ statuses.Refused)
Decides bytes (readings.Opened (Err (refusals.Limit n))) status = MeetsReadingLimit bytes n × (status ≡ statuses.Limit)
Decides bytes (readings.Opened (Err refusals.Memory)) status = status ≡ statuses.Memory

-- ---- the command

-- what `check` does
pub record FileChecks (file : List ℕ) (old new : Scene) (status : Status) : Type 0 where
  -- the file is read as a store; standard output takes the line of the verdict, and standard error the troubles, which ask for
  -- this status
  pub complained : Status
  pub reads : ReadsFile (IsStoreRead HasAnswer file) kinds.Store file (check_ending file) old new complained
  pub status_is : status ≡ final_status complained (reading_status reads.reading)
  -- a count that rose is answered, also one that stands at the end of its type; and a fault is the answer only to such a count
  pub rose : AskedRose (counts_in old) (counts_in new) → (status ≡ statuses.Fault) ⊎ (status ≡ statuses.Memory)
  pub faulted : status ≡ statuses.Fault → AskedRose (counts_in old) (counts_in new)
  -- where the world tells, the bytes under the name decide, unless a count rises
  pub decided : (told : Told) (bytes : List ℕ) → old.world.told ≡ Some told → told.names file ≡ Some bytes
      → (AnyRose (counts_in old) (counts_in new) → ⊥) → Decides bytes reads.reading status
  -- that all was done says that the file keeps all rules, and that all of the line was taken
  pub whole : status ≡ statuses.Done
      → (verdict : Verdict) × (reads.reading ≡ readings.Opened (Ok verdict)) × (verdict_status verdict ≡ statuses.Done)
      × TellsAll old.out new.out (verdict_line verdict)
