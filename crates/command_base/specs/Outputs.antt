-- What a command does that reads some files and writes one: which of the names are blamed, and what is promised of all.
use Rattle.std.specs.Prelude.{◌≡◌, ◌⊎◌, ◌↔◌, ℕ, List, [], ◌∷◌, Bool, true, Option, Some}
use Rattle.std.specs.List.{list_any}
use Rattle.mcap_io.specs.Outside.{Rose, WorldState, Told, Keeping, Opening}
use Rattle.mcap_io.specs.declared.outside.ObjectKind.{ObjectKind}
use Rattle.mcap_io.specs.declared.outside.ObjectKind.TheVariants as kinds
use Rattle.mcap_model.specs.Places.{Each}
use Rattle.command_base.specs.declared.faults.Counts.{Counts}
use Rattle.command_base.specs.declared.statuses.Status.{Status}
use Rattle.command_base.specs.declared.statuses.Status.TheVariants as statuses
use Rattle.command_base.specs.Printing.{TellsAll}
use Rattle.command_base.specs.Ran.{Scene, counts_in, AnyRose, Files, kept, input_faults, output_faults, failed_names, Failed, Ran}
use Rattle.command_base.specs.Endings.{WritingEnding, writing_findings, writing_status, IsWritingDone}

-- ---- the names

-- the inputs, opened as objects of that kind, and then the output
abbrev pub inputs_and_output : ObjectKind → List (List ℕ) → List ℕ → Files
inputs_and_output kind inputs out = record { kind = kind; inputs = inputs; outputs = out ∷ [] }

abbrev pub failed_of : List Bool → Bool → Failed
failed_of inputs out = record { inputs = inputs; outputs = out ∷ [] }

-- one of the answers is that it failed
abbrev pub some_failed : List Bool → Bool
some_failed failed = list_any (λ (b : Bool). b) failed

-- an object that was taken back was asked for nothing
abbrev pub IsUnasked : Opening → Type 0
IsUnasked entry = (keeping : Keeping) → entry.kept ≡ Some keeping → keeping.asked ≡ 0

-- what a source that was taken back has left is what stands under its name
abbrev pub LeftUnderName : Told → Opening → Type 0
LeftUnderName told entry =
    (name : List ℕ) (keeping : Keeping) → entry ≡ kept kinds.Source name keeping → keeping.left ≡ told.names name

-- Nothing was read from the inputs, and nothing written.
pub record Unread (old : WorldState) (entries : List Opening) : Type 0 where
  pub inputs : input_faults entries ≡ 0
  pub outputs : output_faults entries ≡ 0
  pub unasked : Each IsUnasked entries
  pub left : (told : Told) → old.told ≡ Some told → Each (LeftUnderName told) entries

-- And the output's name holds what it held.
pub record Unreached (out : List ℕ) (old new : WorldState) (entries : List Opening) : Type 0 where
  pub unread : Unread old entries
  pub file : (told now : Told) → old.told ≡ Some told → new.told ≡ Some now → now.names out ≡ told.names out

-- ---- faults

-- which of the inputs are blamed, in their order, and whether the output is, as the counts tell: each with its cause, and none is
-- left out
pub record Causes (before now : Counts) (inputs : List Bool) (out : Bool) : Type 0 where
  pub input_cause : some_failed inputs ≡ true → Rose before.world now.world ⊎ Rose before.inputs now.inputs
  pub out_cause : out ≡ true → Rose before.world now.world ⊎ Rose before.outputs now.outputs
  pub inputs_told : Rose before.inputs now.inputs → some_failed inputs ≡ true
  pub outputs_told : Rose before.outputs now.outputs → out ≡ true
  pub world_told : Rose before.world now.world → (some_failed inputs ≡ true) ⊎ (out ≡ true)

-- ---- the command

-- What a command did to the world and to both outputs that opened the inputs in their order and then the output, and that ended so.
pub record ReadsSomeWritesOne (files : Files) (old new : Scene) (entries : List Opening) (ending : WritingEnding)
    (status : Status) : Type 0 where
  -- standard output takes the text, and standard error the troubles, which give the status
  pub ran : Ran files old new entries ending.text (writing_findings files ending) status
  -- the names that are blamed are those whose counts rose
  pub inputs_blamed : List Bool
  pub out_blamed : Bool
  pub blame : ran.failed ≡ failed_of inputs_blamed out_blamed
  pub causes : Causes (counts_in old) (counts_in new) inputs_blamed out_blamed
  -- a want of memory is the answer exactly where memory lacked
  pub memory : (status ≡ statuses.Memory) ↔ (ending.lacks_memory ≡ true)
  -- a count that rose is answered, also one that stands at the end of its type; and a fault is the answer only to such a count
  pub rose : AnyRose (counts_in old) (counts_in new) → (status ≡ statuses.Fault) ⊎ (status ≡ statuses.Memory)
  pub faulted : status ≡ statuses.Fault → AnyRose (counts_in old) (counts_in new)
  -- unless a count rises, no name failed, and the ending decides the status
  pub calm : (AnyRose (counts_in old) (counts_in new) → ⊥)
      → (failed_names entries ≡ []) × (ending.fails ≡ true → ⊥) × (status ≡ writing_status ending)
  -- that all was done says that the output was written without a failure, and that all of the text was taken
  pub whole : status ≡ statuses.Done
      → (failed_names entries ≡ []) × IsWritingDone ending × TellsAll old.out new.out ending.text

-- what such a command did
pub record WritesOutput (files : Files) (old new : Scene) (entries : List Opening) (ending : Bool → WritingEnding)
    (status : Status) : Type 0 where
  pub some : Bool
  pub some_rose : (some ≡ true) ↔ AnyRose (counts_in old) (counts_in new)
  pub ran : ReadsSomeWritesOne files old new entries (ending some) status
