-- What the sorting of a file does: to the names of the world, to both outputs, and how it ends.
use Rattle.std.specs.Prelude.{◌≡◌, ◌⊎◌, ◌≤◌, ℕ, List, [], ◌∷◌, ◌++◌, codes, length, filter, Bool, true, false, Option, Some, None, Result, Ok, Err}
use Rattle.rec_data.specs.declared.owned.Rec.{Rec}
use Rattle.mcap_io.specs.Outside.{LiveState, WorldState, Told, Opening}
use Rattle.mcap_io.specs.Stores.{StoreState, IsUnused, TellsStore}
use Rattle.mcap_io.specs.declared.outside.ObjectKind.TheVariants as kinds
use Rattle.mcap_model.specs.declared.ends.Stop.{Stop}
use Rattle.mcap_model.specs.declared.ends.Stop.TheVariants as stops
use Rattle.mcap_model.specs.declared.refusals.ReadingRefused.{ReadingRefused}
use Rattle.mcap_model.specs.declared.refusals.ReadingRefused.TheVariants as readings
use Rattle.mcap_model.specs.Tops.{Top}
use Rattle.mcap_model.specs.Kept.{reading_limits, Halts, at_end, grammar as breaks, compressed as names_compression, beyond}
use Rattle.mcap_model.specs.History.{is_message}
use Rattle.mcap_model.specs.Blocks.{pieces_of, blocks_in}
use Rattle.mcap_model.specs.File.{file_of}
use Rattle.chunk_writer.specs.Limits.{FileHolds}
use Rattle.chunk_writer.specs.Stops.{StopsAt}
use Rattle.chunk_writer.specs.declared.tape.Written.{Written}
use Rattle.mcap_merge.specs.Filed.{AsksTwice}
use Rattle.mcap_sort.specs.declared.answers.SortCounts.{SortCounts}
use Rattle.mcap_sort.specs.declared.answers.SortRefused.{SortRefused}
use Rattle.mcap_sort.specs.declared.answers.SortRefused.TheVariants as refusals
use Rattle.mcap_sort.specs.Sorted.{Sorts}
use Rattle.mcap_sort.specs.Sorting.{sorted_options, SortsSo}
use Rattle.command_base.specs.declared.statuses.Status.{Status}
use Rattle.command_base.specs.declared.statuses.Status.TheVariants as statuses
use Rattle.command_base.specs.Texts.{grammar}
use Rattle.command_base.specs.OneFile.{refusal_ending}
use Rattle.command_base.specs.Ran.{Scene, counts_in, AnyRose, kept}
use Rattle.command_base.specs.Endings.{WritingEnding, was_written, halted, failing}
use Rattle.command_base.specs.Inputs.{store_keeping}
use Rattle.command_base.specs.Outputs.{inputs_and_output, Unreached, ReadsSomeWritesOne}
use Rattle.command_write.specs.declared.sorting.Sorting.{Sorting}
use Rattle.command_write.specs.declared.sorting.Sorting.TheVariants as sortings
use Rattle.command_write.specs.Recover.{IsPlaced, number_after_name}
use Rattle.command_write.specs.Merge.{PutsNothing, some_refused, ending_at, stop_ending, ReachesDataEnd}

-- ---- what the output holds

-- A reading of the bytes comes to their Data End; this is written of what sorting makes of their records.
pub record SortOf (bytes profile : List ℕ) (extras : List Top) (written : List Rec) : Type 0 where
  pub tops : List Top
  pub end : ℕ
  pub halts : Halts reading_limits bytes tops (at_end end)
  pub sorts : Sorts tops profile extras written

-- the file of that was put there, and these are the numbers of its records
pub record HoldsSorted (chunk : ℕ) (bytes : List ℕ) (counts : SortCounts) (well : Bool) (before now : Option (List ℕ))
    : Type 0 where
  pub profile : List ℕ
  pub extras : List Top
  pub written : List Rec
  pub of : SortOf bytes profile extras written
  pub messages : counts.messages ≡ length (filter is_message written)
  pub records : counts.records ≡ length written
  -- that file is within the limits of writing
  pub within : FileHolds profile (blocks_in (pieces_of (Some chunk) None written)) (length
      (file_of (sorted_options profile chunk) extras written))
  pub placed : IsPlaced (file_of (sorted_options profile chunk) extras written) well before now

-- the writer stopped so at a piece of that file, and what is there of it then was put there
pub record HoldsSortedPart (chunk : ℕ) (bytes : List ℕ) (stop : Stop) (well : Bool) (before now : Option (List ℕ))
    : Type 0 where
  pub profile : List ℕ
  pub extras : List Top
  pub written : List Rec
  pub of : SortOf bytes profile extras written
  pub text : List ℕ
  pub numbers : Written
  pub stops : StopsAt (sorted_options profile chunk) extras written (Some []) (Some text) stop numbers
  pub placed : IsPlaced text well before now

-- Of these bytes, by why their reading was refused: it may fail before anything is written, or while they are read again for what is
-- written, where the writer is stopped as for want of memory.
abbrev pub UnsortedHolds : ℕ → List ℕ → ReadingRefused → Bool → Option (List ℕ) → Option (List ℕ) → Type 0
UnsortedHolds chunk bytes (readings.Fault faults) well before now =
    PutsNothing well before now ⊎ HoldsSortedPart chunk bytes stops.Memory well before now
UnsortedHolds chunk bytes (readings.Grammar offset rule) well before now = PutsNothing well before now
UnsortedHolds chunk bytes (readings.Compressed offset name) well before now = PutsNothing well before now
UnsortedHolds chunk bytes (readings.Limit offset) well before now = PutsNothing well before now
UnsortedHolds chunk bytes readings.Memory well before now = ⊥

-- By what a sorting answered. An input that tells isn't found changed, and memory may lack before anything is written.
abbrev pub SortOutputHolds : ℕ → List ℕ → Result SortCounts SortRefused → Bool → Option (List ℕ) → Option (List ℕ)
    → Type 0
SortOutputHolds chunk bytes (Ok counts) well before now = HoldsSorted chunk bytes counts well before now
SortOutputHolds chunk bytes (Err (refusals.Halted why)) well before now = UnsortedHolds chunk bytes why well before now
SortOutputHolds chunk bytes (Err (refusals.Changed offset)) well before now = ⊥
SortOutputHolds chunk bytes (Err (refusals.Stopped stop)) well before now =
    ((stop ≡ stops.Memory) × PutsNothing well before now) ⊎ HoldsSortedPart chunk bytes stop well before now

-- ---- the names

-- Both were opened. The store under the one name was sorted into the one under the other, and both were taken back.
pub record BothSorted (chunk : ℕ) (input out : List ℕ) (old new : WorldState) (entries : List Opening)
    (result : Result SortCounts SortRefused) : Type 0 where
  -- as the world gave them and as it took them back, and whether that went well
  pub given : StoreState
  pub back : StoreState
  pub given_kept : Bool
  pub live : LiveState
  pub stored : LiveState
  pub live_kept : Bool
  pub sorts : SortsSo chunk given back live stored result
  -- the input was asked for no more than all of its bytes twice
  pub asked : AsksTwice given back
  -- the store told the bytes under the input's name, which is there, where the world tells
  pub tells : TellsStore old input given
  pub unused : IsUnused given
  pub live_unused : live.faults ≡ 0
  -- and then the output's name holds what was sorted of these bytes
  pub file : (told now : Told) (bytes : List ℕ) → old.told ≡ Some told → new.told ≡ Some now
      → told.names input ≡ Some bytes
      → SortOutputHolds chunk bytes result live_kept (told.names out) (now.names out)
  pub kept_are : entries
      ≡ kept kinds.Store input (store_keeping back given_kept)
      ∷ kept kinds.Live out (record { well = live_kept; faults = stored.faults; left = None; asked = 0 }) ∷ []

-- an opening failed, or memory lacked for it
abbrev pub unopened_sorting : Bool → Sorting
unopened_sorting true = sortings.Unopened
unopened_sorting false = sortings.Refused (refusals.Stopped stops.Memory)

-- the last opening was refused: a failure has its entry, a want of memory none
pub record RefusesSorting (entries : List Opening) (sorting : Sorting) : Type 0 where
  pub answer : sorting ≡ unopened_sorting (some_refused entries)
  pub fewer : some_refused entries ≡ false → length entries ≤ 1

abbrev pub sorting_of : Result SortCounts SortRefused → Sorting
sorting_of (Ok counts) = sortings.Made counts
sorting_of (Err why) = sortings.Refused why

-- what became of both names
abbrev pub IsSorting : ℕ → List ℕ → List ℕ → WorldState → WorldState → List Opening → Sorting → Type 0
IsSorting chunk input out old new entries sorting = (RefusesSorting entries sorting × Unreached out old new entries)
    ⊎ ((result : Result SortCounts SortRefused) × (sorting ≡ sorting_of result) × BothSorted chunk input out old new entries result)

-- ---- the line

-- sorted messages=M records=R
unfoldable pub sorted_line : SortCounts → List ℕ
sorted_line counts = number_after_name (codes "sorted messages=") counts.messages
    ++ (number_after_name (codes " records=") counts.records ++ codes "\n")

-- how a sorting ended that was refused; an input that changed is told as one that breaks a rule
abbrev pub unsorted_ending : List ℕ → SortRefused → WritingEnding
unsorted_ending input (refusals.Halted why) = ending_at 0 (refusal_ending input why)
unsorted_ending input (refusals.Changed offset) = halted 0 (grammar input offset)
unsorted_ending input (refusals.Stopped stop) = stop_ending stop

abbrev pub ending_of_sorting : List ℕ → Sorting → WritingEnding
ending_of_sorting input sortings.Unopened = failing
ending_of_sorting input (sortings.Made counts) = was_written (sorted_line counts)
ending_of_sorting input (sortings.Refused why) = unsorted_ending input why

-- ---- the status

-- A fault is a count that rose; what else refuses the reading is what halts a reading of the bytes; and want of memory is told as the
-- sorting's own.
abbrev pub UnsortedDecides : List ℕ → ReadingRefused → Status → Type 0
UnsortedDecides bytes (readings.Fault faults) status = ⊥
UnsortedDecides bytes (readings.Grammar offset rule) status =
    ((tops : List Top) × Halts reading_limits bytes tops (breaks offset rule)) × (status ≡ statuses.Refused)
UnsortedDecides bytes (readings.Compressed offset name) status =
    ((tops : List Top) × Halts reading_limits bytes tops (names_compression offset name)) × (status ≡ statuses.Refused)
UnsortedDecides bytes (readings.Limit offset) status =
    ((tops : List Top) × Halts reading_limits bytes tops (beyond offset)) × (status ≡ statuses.Limit)
UnsortedDecides bytes readings.Memory status = ⊥

abbrev pub SortStopDecides : List ℕ → Stop → Status → Type 0
SortStopDecides bytes (stops.Fault faults) status = ⊥
SortStopDecides bytes (stops.Limit blocks written) status = ReachesDataEnd bytes × (status ≡ statuses.Limit)
SortStopDecides bytes stops.Memory status = status ≡ statuses.Memory

-- Where nothing failed, the bytes decide, but for want of memory and for the limits of a file.
abbrev pub SortDecides : List ℕ → Sorting → Status → Type 0
SortDecides bytes sortings.Unopened status = ⊥
SortDecides bytes (sortings.Made counts) status = ReachesDataEnd bytes × (status ≡ statuses.Done)
SortDecides bytes (sortings.Refused (refusals.Halted why)) status = UnsortedDecides bytes why status
SortDecides bytes (sortings.Refused (refusals.Changed offset)) status = ⊥
SortDecides bytes (sortings.Refused (refusals.Stopped stop)) status = SortStopDecides bytes stop status

-- ---- the command

-- what `sort` does
pub record SortsFile (chunk : ℕ) (input out : List ℕ) (old new : Scene) (status : Status) : Type 0 where
  -- the input is opened as a store, and then the output; this is what the sorting came to, and what the output holds of it
  pub entries : List Opening
  pub sorting : Sorting
  pub comes : IsSorting chunk input out old.world new.world entries sorting
  -- standard output takes the line of what was sorted, and standard error the troubles
  pub ran : ReadsSomeWritesOne (inputs_and_output kinds.Store (input ∷ []) out) old new entries
      (ending_of_sorting input sorting) status
  -- where the world tells, the bytes under the input's name decide, unless a count rises
  pub decided : (told : Told) (bytes : List ℕ) → old.world.told ≡ Some told → told.names input ≡ Some bytes
      → (AnyRose (counts_in old) (counts_in new) → ⊥) → SortDecides bytes sorting status
