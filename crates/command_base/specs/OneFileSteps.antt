-- The steps of a command that reads one file and prints of it.
use Rattle.std.specs.Prelude.{◌≡◌, ◌⊎◌, ℕ, List, ◌++◌, Bool, true, false}
use Rattle.mcap_io.specs.Outside.{Rose, SinkState}
use Rattle.command_base.specs.declared.faults.Counts.{Counts}
use Rattle.command_base.specs.declared.one_file.Faults.{Faults}
use Rattle.command_base.specs.declared.statuses.Status.TheVariants as statuses
use Rattle.command_base.specs.Printing.{TellsAll, TellsTextPart}
use Rattle.command_base.specs.Texts.{Trouble, fault, output_fault, no_memory, asked_status}
use Rattle.command_base.specs.Ran.{when}
use Rattle.command_base.specs.OneFile.{Ending, failing, halted, lacked, was_read, troubles_in, is_lack}

-- what halts a reading is a file that breaks a rule, that isn't as it is wanted, or that passes a limit
abbrev pub IsHalt : Trouble → Type 0
IsHalt trouble = (asked_status trouble ≡ statuses.Refused) ⊎ (asked_status trouble ≡ statuses.Limit)

abbrev pub HaltsWell : Ending → Type 0
HaltsWell ending = (trouble : Trouble) → ending ≡ halted trouble → IsHalt trouble

-- all troubles, in their order, where the file and standard output failed so
abbrev pub one_troubles : List ℕ → Ending → Bool → Bool → List Trouble
one_troubles file ending failed printing =
    troubles_in ending ++ (when failed (fault file) ++ (when printing output_fault ++ when (is_lack ending) no_memory))

-- all of the text was taken, or a first part where the output failed; it is as it was where nothing is printed
abbrev pub PrintsEnding : SinkState → SinkState → Ending → Bool → Type 0
PrintsEnding before now (was_read text) broke =
    ((broke ≡ false) × TellsAll before now text) ⊎ ((broke ≡ true) × TellsTextPart before now text)
PrintsEnding before now (halted trouble) broke = (broke ≡ false) × (now ≡ before)
PrintsEnding before now failing broke = (broke ≡ false) × (now ≡ before)
PrintsEnding before now lacked broke = (broke ≡ false) × (now ≡ before)

-- Which parts failed: those that told it, and those of a count that rose. Each has its cause.
pub record ShowsFaults (before now : Counts) (failed broke : Bool) (faults : Faults) : Type 0 where
  pub file_told : (failed ≡ true) ⊎ (Rose before.world now.world ⊎ Rose before.inputs now.inputs) → faults.file ≡ true
  pub file_cause : faults.file ≡ true → (failed ≡ true) ⊎ (Rose before.world now.world ⊎ Rose before.inputs now.inputs)
  pub printing_told : (broke ≡ true) ⊎ Rose before.printing now.printing → faults.printing ≡ true
  pub printing_cause : faults.printing ≡ true → (broke ≡ true) ⊎ Rose before.printing now.printing
