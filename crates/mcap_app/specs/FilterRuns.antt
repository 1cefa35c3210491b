-- Laws of filterings: what they leave keeps all rules, and is printed as their input is with the same options.
use Rattle.std.specs.Prelude.{◌≡◌, ℕ, List, Some}
use Rattle.mcap_io.specs.Outside.{Told}
use Rattle.mcap_model.specs.Valid.{IsFullyIndexed}
use Rattle.mcap_model.specs.Laws.{IsValid}
use Rattle.mcap_filter.specs.declared.answers.Picked.{Picked}
use Rattle.mcap_filter.specs.Picked.{filtered}
use Rattle.command_base.specs.declared.statuses.Status.{Status}
use Rattle.command_base.specs.declared.statuses.Status.TheVariants as statuses
use Rattle.command_base.specs.Printing.{TellsAll}
use Rattle.command_base.specs.Ran.{Scene, counts_in, AnyRose}
use Rattle.command_read.specs.Cat.{selection, Cats}
use Rattle.command_write.specs.declared.filtering.Filtering.{Filtering}
use Rattle.command_write.specs.declared.filtering.Filtering.TheVariants as filterings
use Rattle.command_write.specs.Filter.{FilterRequest, filtered_line, FiltersFile}
use Rattle.mcap_app.specs.Laws.{everything, IsChunkSize, AreCounted}
use Rattle.mcap_app.specs.Readable.{PrintsOrLacks}
use Rattle.mcap_app.specs.FilteredFiles.{IsFilteredOf}

-- A filtering was made, and its line was printed. Under the output's name stands what is filtered of the bytes that were under the
-- input's. That file is valid and fully indexed where a summary has room for the numbers of its extras.
pub record LeavesFiltered (asked : FilterRequest) (input out : List ℕ) (old new : Scene) (before : Told)
    (filtering : Filtering) : Type 0 where
  pub picked : Picked
  pub is_made : filtering ≡ filterings.Made picked
  pub line : TellsAll old.out new.out (filtered_line picked)
  pub bytes : List ℕ
  pub was_there : before.names input ≡ Some bytes
  pub told : Told
  pub tells : new.world.told ≡ Some told
  pub file : List ℕ
  pub there : told.names out ≡ Some file
  pub is : IsFilteredOf asked bytes file picked
  pub valid : AreCounted is.extras → IsValid file
  pub indexed : AreCounted is.extras → IsFullyIndexed file

-- A filtering in which all was done, in a world that tells, leaves such a file.
abbrev pub FiltersAreSound : Type 0
FiltersAreSound = (asked : FilterRequest) (input out : List ℕ) (old new : Scene) (told : Told) → IsChunkSize asked.chunk
    → (it : FiltersFile asked input out old new statuses.Done) → old.world.told ≡ Some told
    → LeavesFiltered asked input out old new told it.filtering

-- A filtering in which all was done, in a world that tells, leaves what is filtered of the bytes under the input's name; and a
-- printing of its output there, in which no count rises, prints the messages of that, or memory lacked.
abbrev pub FiltersArePrinted : Type 0
FiltersArePrinted = (asked : FilterRequest) (input out : List ℕ) (old new later last : Scene) (answer : Status)
    (told : Told) → IsChunkSize asked.chunk → (it : FiltersFile asked input out old new statuses.Done)
    → old.world.told ≡ Some told → later.world ≡ new.world → Cats everything out later last answer
    → (AnyRose (counts_in later) (counts_in last) → ⊥)
    → (left : LeavesFiltered asked input out old new told it.filtering)
    × PrintsOrLacks (filtered asked.asking left.is.history) later last answer

-- A filtering in a world that tells, a printing of its input with the same options there, and after the filtering a printing of all
-- of its output. Where all was done in all three, both printed one text.
abbrev pub FiltersPrintTheSame : Type 0
FiltersPrintTheSame = (asked : FilterRequest) (input out : List ℕ) (old new earlier between later last : Scene)
    (told : Told) → IsChunkSize asked.chunk → (it : FiltersFile asked input out old new statuses.Done)
    → old.world.told ≡ Some told → earlier.world ≡ old.world
    → Cats (selection asked.asking.range asked.asking.topic) input earlier between statuses.Done
    → later.world ≡ new.world → Cats everything out later last statuses.Done
    → (left : LeavesFiltered asked input out old new told it.filtering)
    × ((text : List ℕ) × TellsAll earlier.out between.out text × TellsAll later.out last.out text)
