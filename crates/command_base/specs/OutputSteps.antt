-- The steps of a command that reads some files and writes one.
use Rattle.std.specs.Prelude.{◌≤◌, ℕ, List, length, ◌≡◌, ◌⊎◌, ◌↔◌, ◌<◌, ◌-◌, ◌^◌, map, Bool, true, if◌then◌else◌}
use Rattle.mcap_model.specs.Places.{Each}
use Rattle.command_base.specs.OneFileSteps.{IsHalt}
use Rattle.command_base.specs.Endings.{WritingEnding, all_halts, writing_findings}
use Rattle.mcap_io.specs.Outside.{Rose, SinkState, WorldState, Opening}
use Rattle.command_base.specs.declared.faults.Counts.{Counts}
use Rattle.command_base.specs.declared.statuses.Status.{Status}
use Rattle.command_base.specs.Ran.{AnyRose, Files, wanted, AreOpened, Leaves, CountsKept, failed_names, blamed_names, troubles_of, Complains}
use Rattle.command_base.specs.declared.blaming.FailedParts.{FailedParts}
use Rattle.command_base.specs.Outputs.{failed_of, some_failed, Causes}

-- ---- endings

-- What halts an input is a file that breaks a rule, that isn't as it is wanted, or that passes a limit. Nothing else halts.
pub record HaltsByInput (inputs : List (List ℕ)) (ending : WritingEnding) : Type 0 where
  pub few : length ending.halts ≤ length inputs
  pub halt : Each IsHalt (all_halts ending.halts)

-- so many files are read at once
abbrev pub input_limit : ℕ
input_limit = 64

abbrev pub InputsAreFew : List (List ℕ) → Type 0
InputsAreFew inputs = (1 ≤ length inputs) × (length inputs ≤ input_limit)

-- ---- the names

-- what became of all names: each was opened and taken back, or not, and failed or not
pub record NamesKept (files : Files) (old new : WorldState) (entries : List Opening) (inputs_failed : List Bool)
    (out_failed : Bool) : Type 0 where
  pub opened : AreOpened (wanted files) entries
  pub leaves : Leaves old new entries
  pub counts : CountsKept old new entries
  -- of the inputs those that were reached have an answer
  pub few : length inputs_failed ≤ length files.inputs
  pub names_are : failed_names entries ≡ blamed_names files (failed_of inputs_failed out_failed)
  -- each failure shows in a count
  pub input_cause : some_failed inputs_failed ≡ true
      → Rose old.faults new.faults ⊎ Rose old.input_faults new.input_faults
  pub out_cause : out_failed ≡ true → Rose old.faults new.faults ⊎ Rose old.output_faults new.output_faults
  -- and each count that rose is one of theirs
  pub inputs_told : old.input_faults < 2 ^ 64 - 1 → Rose old.input_faults new.input_faults
      → some_failed inputs_failed ≡ true
  pub outputs_told : old.output_faults < 2 ^ 64 - 1 → Rose old.output_faults new.output_faults → out_failed ≡ true
  pub world_told : old.faults < 2 ^ 64 - 1 → Rose old.faults new.faults
      → (some_failed inputs_failed ≡ true) ⊎ (out_failed ≡ true)

-- ---- faults

-- the names that failed, each with its cause
pub record FailsWithCause (before now : Counts) (inputs_failed : List Bool) (out_failed : Bool) : Type 0 where
  pub inputs : some_failed inputs_failed ≡ true → Rose before.world now.world ⊎ Rose before.inputs now.inputs
  pub out : out_failed ≡ true → Rose before.world now.world ⊎ Rose before.outputs now.outputs

-- which of the inputs are blamed, by what the code holds
abbrev pub flags_of : List (List ℕ) → FailedParts → List Bool
flags_of inputs failed = if failed.every_input then map (λ (input : List ℕ). true) inputs else failed.inputs.now

-- some part failed
abbrev pub PartFailed : FailedParts → Type 0
PartFailed failed = (failed.every_input ≡ true)
    ⊎ ((some_failed failed.inputs.now ≡ true) ⊎ ((failed.out ≡ true) ⊎ (failed.printing ≡ true)))

-- Which parts failed, where a command told that its names failed so.
pub record PartsShow (before now : Counts) (inputs : List (List ℕ)) (inputs_failed : List Bool) (out_failed : Bool)
    (failed : FailedParts) : Type 0 where
  pub causes : Causes before now (flags_of inputs failed) failed.out
  pub printing : (failed.printing ≡ true) ↔ Rose before.printing now.printing
  pub any : (AnyRose before now) ↔ PartFailed failed
  pub inputs_told : some_failed inputs_failed ≡ true → some_failed (flags_of inputs failed) ≡ true
  pub out_told : out_failed ≡ true → failed.out ≡ true
  pub told : failed.inputs.now ≡ inputs_failed
  -- nothing else is blamed where each count that rose shows in what was told
  pub inputs_are : (Rose before.inputs now.inputs → some_failed inputs_failed ≡ true)
      → flags_of inputs failed ≡ inputs_failed
  pub out_is : (Rose before.outputs now.outputs → out_failed ≡ true)
      → (Rose before.world now.world → (some_failed inputs_failed ≡ true) ⊎ (out_failed ≡ true))
      → failed.out ≡ out_failed

-- ---- the answer

-- What standard error is told, and the status, where these parts failed; the ending may turn on whether some did.
pub record Answers (files : Files) (ending : Bool → WritingEnding) (failed : FailedParts) (before now : SinkState)
    (status : Status) : Type 0 where
  pub some : Bool
  pub some_is : (some ≡ true) ↔ PartFailed failed
  pub told : Complains
      (troubles_of files (writing_findings files (ending some)) (failed_of (flags_of files.inputs failed) failed.out) failed.printing)
      before now status

-- ---- the command

-- what became of the names of a command whose ending may turn on whether some part failed
pub record NamesEnd (files : Files) (old new : WorldState) (entries : List Opening) (inputs_failed : List Bool)
    (out_failed : Bool) (ending : Bool → WritingEnding) : Type 0 where
  pub names : NamesKept files old new entries inputs_failed out_failed
  pub well : (some : Bool) → HaltsByInput files.inputs (ending some)
  -- where it ended for a failure, some part failed
  pub sure : (some : Bool) → (ending some).fails ≡ true
      → (some_failed inputs_failed ≡ true) ⊎ ((out_failed ≡ true) ⊎ (some ≡ true))
