-- What a command does that reads a file and, where that can be read, another, and prints of both.
use Rattle.std.specs.Prelude.{◌≡◌, ◌⊎◌, ◌↔◌, ℕ, List, [], ◌∷◌, Bool, true, ◌||◌, if◌then◌else◌}
use Rattle.mcap_io.specs.Outside.{Rose, Opening}
use Rattle.mcap_io.specs.declared.outside.ObjectKind.TheVariants as kinds
use Rattle.command_base.specs.declared.statuses.Status.{Status}
use Rattle.command_base.specs.declared.statuses.Status.TheVariants as statuses
use Rattle.command_base.specs.Printing.{TellsAll}
use Rattle.command_base.specs.Ran.{Scene, counts_in, AnyRose, Files, failed_names, Findings, Failed, Ran}
use Rattle.command_base.specs.OneFile.{Ending, was_read, failing, lacked, text_of, troubles_in, is_lack, ending_status, AskedRose}

-- the two names, opened as sources
abbrev pub two_files : List ℕ → List ℕ → Files
two_files file other = record { kind = kinds.Source; inputs = file ∷ other ∷ []; outputs = [] }

abbrev pub failed_two : Bool → Bool → Failed
failed_two file other = record { inputs = file ∷ other ∷ []; outputs = [] }

-- what there is to tell of an ending besides faults: it is that of the first file, or of the second
abbrev pub two_findings : Bool → Ending → Findings
two_findings second ending = record {
  halts = if second then [] ∷ troubles_in ending ∷ [] else troubles_in ending ∷ [] ∷ [];
  limits = [];
  lacked = is_lack ending;
}

-- What a command did to the world and to both outputs that opened the first name and perhaps the second, and whose reading of the
-- first, or of the second, ended so.
pub record ReadsTwo (file other : List ℕ) (old new : Scene) (entries : List Opening) (second : Bool) (ending : Ending)
    (status : Status) : Type 0 where
  -- standard output takes the text, and standard error the troubles, which give the status
  pub ran : Ran (two_files file other) old new entries (text_of ending) (two_findings second ending) status
  -- a file is blamed where a count of the world or of its inputs rose, or stands at the end of its type
  pub file_blamed : Bool
  pub other_blamed : Bool
  pub blame : ran.failed ≡ failed_two file_blamed other_blamed
  pub cause : ((file_blamed || other_blamed) ≡ true)
      ↔ (Rose old.world.faults new.world.faults ⊎ Rose old.world.input_faults new.world.input_faults)
  -- out of memory is the answer exactly where memory lacked for a reading
  pub memory : (status ≡ statuses.Memory) ↔ (ending ≡ lacked)
  -- a count that rose is answered, also one that stands at the end of its type; and a fault is the answer only to such a count
  pub rose : AskedRose (counts_in old) (counts_in new) → (status ≡ statuses.Fault) ⊎ (status ≡ statuses.Memory)
  pub faulted : status ≡ statuses.Fault → AskedRose (counts_in old) (counts_in new)
  -- unless a count rises, no file failed, and the ending decides the status
  pub calm : (AnyRose (counts_in old) (counts_in new) → ⊥)
      → (failed_names entries ≡ []) × (ending ≡ failing → ⊥) × (status ≡ ending_status ending)
  -- that all was done says that both were read without a failure, and that all of the text was taken
  pub whole : status ≡ statuses.Done
      → (failed_names entries ≡ []) × ((text : List ℕ) × (ending ≡ was_read text) × TellsAll old.out new.out text)
