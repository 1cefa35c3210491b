-- The steps of a command that reads a file and then another.
use Rattle.std.specs.Prelude.{◌≡◌, ◌⊎◌, ℕ, List, [], ◌++◌, Bool, true, false, ◌||◌, if◌then◌else◌}
use Rattle.mcap_io.specs.Outside.{Rose, SinkState, WorldState, Opening}
use Rattle.command_base.specs.declared.faults.Counts.{Counts}
use Rattle.command_base.specs.Texts.{Trouble, fault, output_fault, no_memory}
use Rattle.command_base.specs.ComplaintTroubles.{complained}
use Rattle.command_base.specs.Printing.{Takes}
use Rattle.command_base.specs.Ran.{Scene, wanted, AreOpened, Leaves, CountsKept, named_when, failed_names, when}
use Rattle.command_base.specs.OneFile.{Ending, failing, text_of, troubles_in, is_lack}
use Rattle.command_base.specs.OneFileSteps.{HaltsWell, PrintsEnding}
use Rattle.command_read.specs.declared.two_files.TwoFaults.{TwoFaults}
use Rattle.command_read.specs.declared.two_files.Found.{Found}
use Rattle.command_read.specs.TwoFiles.{two_files}

-- what became of the names: they were opened and taken back, or not, and failed or not
pub record TwoRead (file other : List ℕ) (old new : WorldState) (entries : List Opening)
    (file_failed other_failed : Bool) : Type 0 where
  pub opened : AreOpened (wanted (two_files file other)) entries
  pub leaves : Leaves old new entries
  pub counts : CountsKept old new entries
  pub names_are : failed_names entries ≡ named_when file_failed file ++ (named_when other_failed other ++ [])
  pub cause : (file_failed || other_failed) ≡ true
      → Rose old.faults new.faults ⊎ Rose old.input_faults new.input_faults
  pub world_told : (file_failed || other_failed) ≡ false → new.faults ≡ old.faults
  pub inputs_told : (file_failed || other_failed) ≡ false → new.input_faults ≡ old.input_faults
  pub outputs : new.output_faults ≡ old.output_faults

-- Which parts failed: those that told it, and where none of the names did, the first file for a count that rose. Each has its
-- cause.
pub record ShowsTwoFaults (before now : Counts) (file_failed other_failed broke : Bool) (faults : TwoFaults)
    : Type 0 where
  pub other_is : faults.other ≡ other_failed
  pub file_told : file_failed ≡ true → faults.file ≡ true
  pub told : Rose before.world now.world ⊎ Rose before.inputs now.inputs → (faults.file || faults.other) ≡ true
  pub file_cause : faults.file ≡ true → (file_failed ≡ true)
      ⊎ ((other_failed ≡ false) × (Rose before.world now.world ⊎ Rose before.inputs now.inputs))
  pub printing_told : (broke ≡ true) ⊎ Rose before.printing now.printing → faults.printing ≡ true
  pub printing_cause : faults.printing ≡ true → (broke ≡ true) ⊎ Rose before.printing now.printing

-- all troubles, in their order
abbrev pub due_of_two : List ℕ → List ℕ → List Trouble → List Trouble → TwoFaults → Bool → List Trouble
due_of_two file other halts more faults lacks = halts
    ++ (when faults.file (fault file)
    ++ (more ++ (when faults.other (fault other) ++ (when faults.printing output_fault ++ when lacks no_memory))))

-- what a command found, where the reading of the first file, or of the second, ended so, and what it printed of it
pub record FindsTwo (file other : List ℕ) (old : Scene) (world : WorldState) (out : SinkState) (entries : List Opening)
    (second : Bool) (ending : Ending) (found : Found) : Type 0 where
  pub names : TwoRead file other old.world world entries found.file_failed found.other_failed
  -- a reading that failed has a name that failed
  pub sure : ending ≡ failing → (found.file_failed || found.other_failed) ≡ true
  pub well : HaltsWell ending
  pub prints : PrintsEnding old.out out ending found.broke
  pub takes : Takes old.out out (text_of ending)
  pub file_halt : complained found.file_halt ≡ (if second then [] else troubles_in ending)
  pub other_halt : complained found.other_halt ≡ (if second then troubles_in ending else [])
  pub lacks : found.lacked ≡ is_lack ending
