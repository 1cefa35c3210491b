-- Laws of recoveries and merges: what they leave is printed.
use Rattle.std.specs.Prelude.{◌≡◌, ◌⊎◌, ℕ, List, Some}
use Rattle.mcap_io.specs.Outside.{Told}
use Rattle.rec_data.specs.declared.owned.Rec.{Rec}
use Rattle.mcap_model.specs.Tops.{Top}
use Rattle.mcap_model.specs.Repaired.{Repaired}
use Rattle.command_base.specs.declared.statuses.Status.{Status}
use Rattle.command_base.specs.declared.statuses.Status.TheVariants as statuses
use Rattle.command_base.specs.Ran.{Scene, counts_in, AnyRose}
use Rattle.command_read.specs.Cat.{Cats}
use Rattle.command_write.specs.Recover.{RecoversFile}
use Rattle.command_write.specs.Merge.{MergesFiles}
use Rattle.mcap_app.specs.Laws.{everything, PrintsHistory, IsChunkSize, LeavesMerged}

-- what a printing of a whole file comes to: the lines of the messages of a history, or memory lacked
abbrev pub PrintsOrLacks : List Rec → Scene → Scene → Status → Type 0
PrintsOrLacks history later last answer =
    ((answer ≡ statuses.Done) × PrintsHistory history later.out last.out) ⊎ (answer ≡ statuses.Memory)

-- A recovery in which all was done, in a world that tells, and then a printing of its output there, in which no count rises: of the
-- bytes under the input's name it prints the messages of what repairing makes of them, or memory lacked for that.
abbrev pub RecoveriesArePrinted : Type 0
RecoveriesArePrinted = (chunk : ℕ) (input out : List ℕ) (old new later last : Scene) (answer : Status) (told : Told)
    → IsChunkSize chunk → RecoversFile chunk input out old new statuses.Done → old.world.told ≡ Some told
    → later.world ≡ new.world → Cats everything out later last answer
    → (AnyRose (counts_in later) (counts_in last) → ⊥)
    → (bytes profile : List ℕ) (extras : List Top) (history : List Rec) → told.names input ≡ Some bytes
    → Repaired bytes profile extras history
    → PrintsOrLacks history later last answer

-- A merge in which all was done, in a world that tells, leaves what merging makes of the files under the inputs' names; and a
-- printing of its output there, in which no count rises, prints the messages of that, or memory lacked.
abbrev pub MergesArePrinted : Type 0
MergesArePrinted = (chunk : ℕ) (inputs : List (List ℕ)) (out : List ℕ) (old new later last : Scene) (answer : Status)
    (told : Told) → IsChunkSize chunk → (it : MergesFiles chunk inputs out old new statuses.Done)
    → old.world.told ≡ Some told → later.world ≡ new.world → Cats everything out later last answer
    → (AnyRose (counts_in later) (counts_in last) → ⊥)
    → (left : LeavesMerged chunk inputs out old new told it.merging)
    × PrintsOrLacks left.history later last answer
