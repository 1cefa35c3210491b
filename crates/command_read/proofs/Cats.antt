-- What the troubles of a printing say of it, and of its file.
use Rattle.std.proofs.Common.{◌≡◌, ◌⊎◌, ℕ, List, Some, Result, Ok, Err, refl, ap, inl, inr, ◌∙◌}
use Rattle.mcap_io.specs.Outside.{SourceState}
use Rattle.mcap_io.specs.declared.outside.ObjectKind.TheVariants as kinds
use Rattle.mcap_io.specs.declared.outside.OutsideRefused.{OutsideRefused}
use Rattle.mcap_io.specs.declared.outside.OutsideRefused.TheVariants as outside_refusals
use Rattle.mcap_model.specs.Tops.{Top}
use Rattle.mcap_model.specs.Kept.{Halt, reading_limits, at_end, grammar as breaks, compressed as names, beyond, Halts}
use Rattle.mcap_model.specs.Readings.{SameHalt}
use Rattle.mcap_model.proofs.Halting.{readings_halt_once}
use Rattle.mcap_model.specs.declared.refusals.ReadingRefused.{ReadingRefused}
use Rattle.mcap_model.specs.declared.refusals.ReadingRefused.TheVariants as refusals
use Rattle.mcap_scan.specs.RefusedReadings.{RefusalStands}
use Rattle.command_base.specs.declared.file_reading.Reading.{Reading}
use Rattle.command_base.specs.declared.file_reading.Reading.TheVariants as readings
use Rattle.command_base.specs.declared.statuses.Status.{Status}
use Rattle.command_base.specs.declared.statuses.Status.TheVariants as statuses
use Rattle.command_base.specs.Texts.{halt_status}
use Rattle.command_base.specs.Ran.{Scene}
use Rattle.command_base.specs.OneFile.{failing, ending_status}
use Rattle.command_base.specs.Readings.{IsSourceRead, ReadsFile}
use Rattle.command_base.proofs.ReadNames.{source_shows}
use Rattle.command_read.specs.Cat.{Selection, IsUnprinted, ComesTo, cat_ending, Cats}

-- what is said of a refused replay
pub refused_so : (before now : SourceState) (why : ReadingRefused) → (tops : List Top) × RefusalStands why before now tops → IsUnprinted before now why
refused_so before now (refusals.Fault faults) stands = stands
refused_so before now (refusals.Grammar offset rule) stands = stands
refused_so before now (refusals.Compressed offset name) stands = stands
refused_so before now (refusals.Limit offset) stands = stands
refused_so before now refusals.Memory stands = inl stands

-- ---- the bytes decide

same_status : (a b : Halt) → SameHalt a b → halt_status a ≡ halt_status b
same_status (breaks n rule) (breaks m other) is = refl
same_status (breaks n rule) (at_end m) is = absurd is
same_status (breaks n rule) (names m name) is = absurd is
same_status (breaks n rule) (beyond m) is = absurd is
same_status (at_end n) (breaks m other) is = absurd is
same_status (at_end n) (at_end m) is = ap halt_status is
same_status (at_end n) (names m name) is = ap halt_status is
same_status (at_end n) (beyond m) is = ap halt_status is
same_status (names n name) (breaks m other) is = absurd is
same_status (names n name) (at_end m) is = ap halt_status is
same_status (names n name) (names m other) is = ap halt_status is
same_status (names n name) (beyond m) is = ap halt_status is
same_status (beyond n) (breaks m other) is = absurd is
same_status (beyond n) (at_end m) is = ap halt_status is
same_status (beyond n) (names m name) is = ap halt_status is
same_status (beyond n) (beyond m) is = ap halt_status is

module _ (asked : Selection) (file bytes : List ℕ) (tops : List Top) (halt : Halt) (halts : Halts reading_limits bytes tops halt) where
  one_status : (others : List Top) (other : Halt) → Halts reading_limits bytes others other → halt_status other ≡ halt_status halt
  one_status others other found = same_status other halt (readings_halt_once bytes others tops other halt found halts).1

  -- a reading that didn't fail halts where the bytes say, or memory lacked
  abbrev Decided : Reading (List ℕ) ReadingRefused → Type 0
  Decided reading = (cat_ending file reading ≡ failing → ⊥) → (ending_status (cat_ending file reading) ≡ halt_status halt) ⊎ (ending_status (cat_ending file reading) ≡ statuses.Memory)

  unopened_so : (why : OutsideRefused) → Decided (readings.Unopened why)
  unopened_so outside_refusals.Failed other = absurd (other refl)
  unopened_so outside_refusals.Memory other = inr refl

  halted_so : (source now : SourceState) (came : Result (List ℕ) ReadingRefused) → source.left ≡ Some bytes → ComesTo asked source now came → Decided (readings.Opened came)
  halted_so source now (Ok text) here comes other = inl (one_status comes.tops (at_end comes.end) (comes.halts.halts bytes here))
  halted_so source now (Err (refusals.Fault faults)) here comes other = absurd (other refl)
  halted_so source now (Err (refusals.Grammar n rule)) here comes other = inl (one_status comes.0 (breaks n rule) (comes.1.halts bytes here))
  halted_so source now (Err (refusals.Compressed n name)) here comes other = inl (one_status comes.0 (names n name) (comes.1.halts bytes here))
  halted_so source now (Err (refusals.Limit n)) here comes other = inl (one_status comes.0 (beyond n) (comes.1.halts bytes here))
  halted_so source now (Err refusals.Memory) here comes other = inr refl

-- all that the program promises of a printing
pub printed : (asked : Selection) (file : List ℕ) (old new : Scene) (answer : Status) → ReadsFile (IsSourceRead (ComesTo asked) file) kinds.Source file (cat_ending file) old new answer → Cats asked file old new answer
printed asked file old new answer reads = record {
  reads = reads;
  decided = λ told bytes tops halt here there halts quiet.
      let (unnamed, unfailing, same) = reads.ran.calm quiet in
      elim (source_shows (Decided asked file bytes tops halt halts) file bytes old.world told here there (unopened_so asked file bytes tops halt halts) (ComesTo asked) (halted_so asked file bytes tops halt halts) reads.entries reads.reading reads.read unfailing) [
        | inl decides ↦ inl (same ∙ decides)
        | inr lacks ↦ inr (same ∙ lacks)
      ];
}
