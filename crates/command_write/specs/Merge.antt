-- What the merging of files does: to the names of the world, to both outputs, and how it ends.
use Rattle.std.specs.Prelude.{◌≡◌, ◌⊎◌, ◌≤◌, ◌<◌, not, ℕ, List, [], ◌∷◌, ◌++◌, codes, map, length, filter, Bool, true, false, Option, Some, None, Result, Ok, Err}
use Rattle.std.specs.List.{AllZip, list_any}
use Rattle.rec_data.specs.declared.owned.Rec.{Rec}
use Rattle.mcap_io.specs.Outside.{LiveState, WorldState, Told, Opening}
use Rattle.mcap_io.specs.Stores.{StoreState, IsUnused, TellsStore}
use Rattle.mcap_io.specs.declared.outside.ObjectKind.TheVariants as kinds
use Rattle.mcap_wire.specs.Limits.{id_limit}
use Rattle.mcap_model.specs.declared.ends.Stop.{Stop}
use Rattle.mcap_model.specs.declared.ends.Stop.TheVariants as stops
use Rattle.mcap_model.specs.declared.refusals.ReadingRefused.{ReadingRefused}
use Rattle.mcap_model.specs.declared.refusals.ReadingRefused.TheVariants as readings
use Rattle.mcap_model.specs.Places.{At, Each}
use Rattle.mcap_model.specs.Tops.{Top}
use Rattle.mcap_model.specs.Blocks.{pieces_of, blocks_in}
use Rattle.mcap_model.specs.Kept.{reading_limits, Halts, at_end, grammar as breaks, compressed as names, beyond}
use Rattle.mcap_model.specs.History.{is_message}
use Rattle.mcap_model.specs.ReadBack.{IsReadBack}
use Rattle.mcap_model.specs.File.{file_of, IsPrefix}
use Rattle.mcap_model.specs.Merged.{Merged as MergesTo, AreRead, IsUsed, SchemaIsUsed, AtMost, MoreThan}
use Rattle.chunk_writer.specs.Limits.{FileHolds}
use Rattle.mcap_merge.specs.declared.answers.Merged.{Merged}
use Rattle.mcap_merge.specs.declared.answers.MergeRefused.{MergeRefused}
use Rattle.mcap_merge.specs.declared.answers.MergeRefused.TheVariants as merges
use Rattle.mcap_merge.specs.Filed.{merged_options, MergesInto, MergeFails, AsksTwice}
use Rattle.command_base.specs.declared.statuses.Status.{Status}
use Rattle.command_base.specs.declared.statuses.Status.TheVariants as statuses
use Rattle.command_base.specs.Texts.{grammar}
use Rattle.command_base.specs.OneFile.{refusal_ending}
use Rattle.command_base.specs.OneFile as one
use Rattle.command_base.specs.Ran.{Scene, counts_in, AnyRose, kept}
use Rattle.command_write.specs.declared.merging.Merging.{Merging}
use Rattle.command_write.specs.declared.merging.Merging.TheVariants as mergings
use Rattle.command_write.specs.Halting.{name_at}
use Rattle.command_write.specs.Recover.{IsPlaced, number_after_name}
use Rattle.command_base.specs.Endings.{WritingEnding, was_written, halted, limited, failing, lacked}
use Rattle.command_base.specs.Inputs.{store_keeping, InputKept, input_entry, names_kept, backs_of}
use Rattle.command_base.specs.Outputs.{inputs_and_output, Unreached, ReadsSomeWritesOne}

-- ---- what the output holds

-- these bytes stand under the name
abbrev pub HoldsBytes : Told → List ℕ → List ℕ → Type 0
HoldsBytes told name bytes = told.names name ≡ Some bytes

-- The file that merging makes of these files was put there, and these are the numbers of its records. Each of them is read back
-- as itself, so its ids fit their two bytes.
pub record HoldsMerged (chunk : ℕ) (files : List (List ℕ)) (m : Merged) (well : Bool) (before now : Option (List ℕ))
    : Type 0 where
  pub profile : List ℕ
  pub extras : List Top
  pub history : List Rec
  pub merges : MergesTo files profile extras history
  pub back : Each IsReadBack history
  pub messages : m.messages ≡ length (filter is_message history)
  pub records : m.records ≡ length history
  -- that file is within the limits of writing
  pub within : FileHolds profile (blocks_in (pieces_of (Some chunk) None history)) (length
      (file_of (merged_options profile chunk) extras history))
  pub placed : IsPlaced (file_of (merged_options profile chunk) extras history) well before now

-- a first part of it was put there
pub record HoldsFirst (chunk : ℕ) (files : List (List ℕ)) (well : Bool) (before now : Option (List ℕ)) : Type 0 where
  pub profile : List ℕ
  pub extras : List Top
  pub history : List Rec
  pub merges : MergesTo files profile extras history
  pub text : List ℕ
  pub part : IsPrefix text (file_of (merged_options profile chunk) extras history)
  pub placed : IsPlaced text well before now

-- nothing was put there
abbrev pub PutsNothing : Bool → Option (List ℕ) → Option (List ℕ) → Type 0
PutsNothing well before now = IsPlaced [] well before now

-- Of these files, by why the reading of one of them was refused: it may fail before anything is written, or while the inputs are
-- read again for what is written.
abbrev pub HaltedHolds : ℕ → List (List ℕ) → ReadingRefused → Bool → Option (List ℕ) → Option (List ℕ) → Type 0
HaltedHolds chunk files (readings.Fault faults) well before now =
    PutsNothing well before now ⊎ HoldsFirst chunk files well before now
HaltedHolds chunk files (readings.Grammar offset rule) well before now = PutsNothing well before now
HaltedHolds chunk files (readings.Compressed offset name) well before now = PutsNothing well before now
HaltedHolds chunk files (readings.Limit offset) well before now = PutsNothing well before now
HaltedHolds chunk files readings.Memory well before now = ⊥

-- By why the merge stopped: memory may lack before anything is written, or while it is.
abbrev pub StoppedHolds : ℕ → List (List ℕ) → Stop → Bool → Option (List ℕ) → Option (List ℕ) → Type 0
StoppedHolds chunk files (stops.Fault faults) well before now = HoldsFirst chunk files well before now
StoppedHolds chunk files (stops.Limit blocks bytes) well before now = HoldsFirst chunk files well before now
StoppedHolds chunk files stops.Memory well before now =
    PutsNothing well before now ⊎ HoldsFirst chunk files well before now

-- By what a merge answered. No input that tells is found changed.
abbrev pub MergeOutputHolds : ℕ → List (List ℕ) → Result Merged MergeRefused → Bool → Option (List ℕ) → Option (List ℕ)
    → Type 0
MergeOutputHolds chunk files (Ok m) well before now = HoldsMerged chunk files m well before now
MergeOutputHolds chunk files (Err (merges.Halted input why)) well before now =
    HaltedHolds chunk files why well before now
MergeOutputHolds chunk files (Err (merges.Changed input offset)) well before now = ⊥
MergeOutputHolds chunk files (Err merges.TooManySchemas) well before now = PutsNothing well before now
MergeOutputHolds chunk files (Err merges.TooManyChannels) well before now = PutsNothing well before now
MergeOutputHolds chunk files (Err (merges.Stopped stop)) well before now = StoppedHolds chunk files stop well before now

-- ---- the names

-- what the library says of a merge of stores into a live store
abbrev pub MergesStores : List StoreState → List StoreState → LiveState → LiveState → ℕ → Result Merged MergeRefused
    → Type 0
MergesStores given back live stored chunk (Ok m) = MergesInto given back live stored chunk m
MergesStores given back live stored chunk (Err why) = MergeFails given back live stored chunk why

-- an input's store as the world took it back, and its entry
abbrev pub StoreKept : Type 0
StoreKept = InputKept StoreState

abbrev pub store_entry : StoreKept → Opening
store_entry k = input_entry kinds.Store store_keeping k

-- All were opened. The stores under the inputs' names were merged into the one under the output's, and all were taken back.
pub record Reached (chunk : ℕ) (inputs : List (List ℕ)) (out : List ℕ) (old new : WorldState) (entries : List Opening)
    (result : Result Merged MergeRefused) : Type 0 where
  -- as the world gave them and as it took them back, in the order of the words, and whether that went well
  pub given : List StoreState
  pub kept_inputs : List StoreKept
  pub names_are : inputs ≡ names_kept kept_inputs
  pub live : LiveState
  pub stored : LiveState
  pub live_kept : Bool
  pub merges : MergesStores given (backs_of kept_inputs) live stored chunk result
  -- no input was asked for more than all of its bytes twice
  pub asked : AllZip AsksTwice given (backs_of kept_inputs)
  -- each store told the bytes under its input's name, which is there, where the world tells
  pub tells : AllZip (TellsStore old) inputs given
  pub unused : Each IsUnused given
  pub live_unused : live.faults ≡ 0
  -- and then the output's name holds what was merged of these bytes
  pub file : (told now : Told) (files : List (List ℕ)) → old.told ≡ Some told → new.told ≡ Some now
      → AllZip (HoldsBytes told) inputs files
      → MergeOutputHolds chunk files result live_kept (told.names out) (now.names out)
  pub kept_are : entries
      ≡ map store_entry kept_inputs
      ++ kept kinds.Live out (record { well = live_kept; faults = stored.faults; left = None; asked = 0 }) ∷ []

-- an opening failed, or memory lacked for it
abbrev pub unopened_so : Bool → Merging
unopened_so true = mergings.Unopened
unopened_so false = mergings.Refused (merges.Stopped stops.Memory)

-- the last opening was refused: a failure has its entry, a want of memory none
abbrev pub some_refused : List Opening → Bool
some_refused entries = list_any (λ (entry : Opening). not entry.given) entries

pub record RefusesMerge (inputs : List (List ℕ)) (entries : List Opening) (merging : Merging) : Type 0 where
  pub answer : merging ≡ unopened_so (some_refused entries)
  pub fewer : some_refused entries ≡ false → length entries ≤ length inputs

abbrev pub merging_of : Result Merged MergeRefused → Merging
merging_of (Ok m) = mergings.Made m
merging_of (Err why) = mergings.Refused why

-- what became of all names
abbrev pub IsMerging : ℕ → List (List ℕ) → List ℕ → WorldState → WorldState → List Opening → Merging → Type 0
IsMerging chunk inputs out old new entries merging = (RefusesMerge inputs entries merging × Unreached out old new entries)
    ⊎ ((result : Result Merged MergeRefused) × (merging ≡ merging_of result) × Reached chunk inputs out old new entries result)

-- ---- the line

-- merged inputs=I messages=M records=R
unfoldable pub merged_line : ℕ → Merged → List ℕ
merged_line inputs m = number_after_name (codes "merged inputs=") inputs
    ++ (number_after_name (codes " messages=") m.messages ++ (number_after_name (codes " records=") m.records ++ codes "\n"))

-- how a merging ended in which the reading of the input of that number ended so
abbrev pub ending_at : ℕ → one.Ending → WritingEnding
ending_at n (one.was_read text) = was_written text
ending_at n (one.halted trouble) = halted n trouble
ending_at n one.failing = failing
ending_at n one.lacked = lacked

-- and one that stopped
abbrev pub stop_ending : Stop → WritingEnding
stop_ending (stops.Fault faults) = failing
stop_ending (stops.Limit blocks bytes) = limited
stop_ending stops.Memory = lacked

-- how a merging ended that was refused; an input that changed is told as one that breaks a rule
abbrev pub merge_ending : List (List ℕ) → MergeRefused → WritingEnding
merge_ending inputs (merges.Halted input why) = ending_at input (refusal_ending (name_at inputs input) why)
merge_ending inputs (merges.Changed input offset) = halted input (grammar (name_at inputs input) offset)
merge_ending inputs merges.TooManySchemas = limited
merge_ending inputs merges.TooManyChannels = limited
merge_ending inputs (merges.Stopped stop) = stop_ending stop

abbrev pub ending_of_merging : List (List ℕ) → Merging → WritingEnding
ending_of_merging inputs mergings.Unopened = failing
ending_of_merging inputs (mergings.Made m) = was_written (merged_line (length inputs) m)
ending_of_merging inputs (mergings.Refused why) = merge_ending inputs why

-- ---- the status

-- a reading of these bytes comes to their Data End
abbrev pub ReachesDataEnd : List ℕ → Type 0
ReachesDataEnd bytes = (tops : List Top) × (end : ℕ) × Halts reading_limits bytes tops (at_end end)

-- the file of that number, from 0, halts so, and those before it come to their Data Ends
pub record FirstHalts (files : List (List ℕ)) (n : ℕ) (halts : List ℕ → Type 0) : Type 0 where
  pub before : (k : ℕ) (bytes : List ℕ) → k < n → At files k bytes → ReachesDataEnd bytes
  pub bytes : List ℕ
  pub at : At files n bytes
  pub so : halts bytes

-- all files come to their Data Ends, and that is so of their records
abbrev pub OfWholeFiles : List (List ℕ) → (List (List Top) → Type 0) → Type 0
OfWholeFiles files P = (inputs : List (List Top)) × AreRead files inputs × P inputs

-- Where nothing failed, the file of that number decides, whose reading was refused; memory lacks for the merge, not for it.
abbrev pub HaltDecides : List (List ℕ) → ℕ → ReadingRefused → Status → Type 0
HaltDecides files input (readings.Fault faults) status = ⊥
HaltDecides files input (readings.Grammar offset rule) status = FirstHalts files input
    (λ bytes. (tops : List Top) × Halts reading_limits bytes tops (breaks offset rule)) × (status ≡ statuses.Refused)
HaltDecides files input (readings.Compressed offset name) status = FirstHalts files input
    (λ bytes. (tops : List Top) × Halts reading_limits bytes tops (names offset name)) × (status ≡ statuses.Refused)
HaltDecides files input (readings.Limit offset) status = FirstHalts files input (λ bytes. (tops : List Top)
    × Halts reading_limits bytes tops (beyond offset)) × (status ≡ statuses.Limit)
HaltDecides files input readings.Memory status = ⊥

abbrev pub StopDecides : List (List ℕ) → Stop → Status → Type 0
StopDecides files (stops.Fault faults) status = ⊥
StopDecides files (stops.Limit blocks bytes) status =
    OfWholeFiles files (λ inputs. Unit {0}) × (status ≡ statuses.Limit)
StopDecides files stops.Memory status = status ≡ statuses.Memory

-- Where nothing failed, the bytes decide, but for want of memory and for the limits of a file.
abbrev pub MergeDecides : List (List ℕ) → Merging → Status → Type 0
MergeDecides files mergings.Unopened status = ⊥
MergeDecides files (mergings.Made m) status = OfWholeFiles files (λ inputs. Unit {0}) × (status ≡ statuses.Done)
MergeDecides files (mergings.Refused (merges.Halted input why)) status = HaltDecides files input why status
MergeDecides files (mergings.Refused (merges.Changed input offset)) status = ⊥
MergeDecides files (mergings.Refused merges.TooManySchemas) status =
    OfWholeFiles files (λ inputs. MoreThan id_limit (SchemaIsUsed inputs)) × (status ≡ statuses.Limit)
MergeDecides files (mergings.Refused merges.TooManyChannels) status = OfWholeFiles files
    (λ inputs. MoreThan id_limit (IsUsed inputs) × AtMost id_limit (SchemaIsUsed inputs)) × (status ≡ statuses.Limit)
MergeDecides files (mergings.Refused (merges.Stopped stop)) status = StopDecides files stop status

-- ---- the command

-- what `merge` does
pub record MergesFiles (chunk : ℕ) (inputs : List (List ℕ)) (out : List ℕ) (old new : Scene) (status : Status)
    : Type 0 where
  -- the inputs are opened as stores, and then the output; this is what the merging came to, and what the output holds of it
  pub entries : List Opening
  pub merging : Merging
  pub comes : IsMerging chunk inputs out old.world new.world entries merging
  -- standard output takes the line of what was merged, and standard error the troubles
  pub ran : ReadsSomeWritesOne (inputs_and_output kinds.Store inputs out) old new entries
      (ending_of_merging inputs merging) status
  -- where the world tells, the bytes under the inputs' names decide, unless a count rises
  pub decided : (told : Told) (files : List (List ℕ)) → old.world.told ≡ Some told
      → AllZip (HoldsBytes told) inputs files → (AnyRose (counts_in old) (counts_in new) → ⊥)
      → MergeDecides files merging status
