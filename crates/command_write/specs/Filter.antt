-- What the filtering of a file does: to the names of the world, to both outputs, and how it ends.
use Rattle.std.specs.Prelude.{◌≡◌, ◌⊎◌, ℕ, List, [], ◌∷◌, ◌++◌, codes, length, filter, Bool, true, false, Option, Some, None, Result, Ok, Err}
use Rattle.rec_data.specs.declared.owned.Rec.{Rec}
use Rattle.mcap_io.specs.Outside.{SourceState, LiveState, WorldState, Told, Opening, TellsName}
use Rattle.mcap_io.specs.declared.outside.ObjectKind.TheVariants as kinds
use Rattle.mcap_model.specs.Tops.{Top}
use Rattle.mcap_model.specs.Rules.{V1}
use Rattle.mcap_model.specs.Kept.{Good, reading_limits, Halts, at_end, grammar as breaks, compressed as names_compression, beyond}
use Rattle.mcap_model.specs.History.{is_message}
use Rattle.mcap_model.specs.Blocks.{pieces_of, blocks_in}
use Rattle.mcap_model.specs.File.{file_of, IsPrefix}
use Rattle.mcap_model.specs.Repaired.{Repairs, Repaired}
use Rattle.mcap_model.specs.declared.refusals.ReadingRefused.{ReadingRefused}
use Rattle.mcap_model.specs.declared.refusals.ReadingRefused.TheVariants as scans
use Rattle.mcap_model.specs.declared.ends.Stop.{Stop}
use Rattle.mcap_model.specs.declared.ends.Stop.TheVariants as stops
use Rattle.chunk_writer.specs.Limits.{FileHolds}
use Rattle.chunk_writer.specs.declared.tape.Written.{Written}
use Rattle.chunk_writer.specs.Stops.{StopsAt}
use Rattle.record_keeping.specs.NewFiles.{recovered_options, LeftAfter, IsUnbegun, AreRipe, CutShort}
use Rattle.mcap_filter.specs.declared.answers.Picked.{Picked}
use Rattle.mcap_filter.specs.declared.answers.PickRefused.{PickRefused}
use Rattle.mcap_filter.specs.declared.answers.PickRefused.TheVariants as refusals
use Rattle.mcap_filter.specs.Picked.{Asking, filtered}
use Rattle.mcap_filter.specs.Filtering.{filtered_making, RefusalLeaves, EndedBytes, Filters}
use Rattle.command_base.specs.declared.statuses.Status.{Status}
use Rattle.command_base.specs.declared.statuses.Status.TheVariants as statuses
use Rattle.command_base.specs.OneFile.{refusal_ending}
use Rattle.command_base.specs.Ran.{Scene, counts_in, AnyRose, kept}
use Rattle.command_base.specs.Endings.{WritingEnding, was_written, failing}
use Rattle.command_base.specs.Outputs.{Unreached, ReadsSomeWritesOne}
use Rattle.command_write.specs.declared.filtering.Filtering.{Filtering}
use Rattle.command_write.specs.declared.filtering.Filtering.TheVariants as filterings
use Rattle.command_write.specs.Recover.{IsPlaced, both_names, number_after_name}
use Rattle.command_write.specs.Merge.{ending_at, stop_ending, ReachesDataEnd}

-- which messages are asked for, and in chunks of which size the new file is written
pub record FilterRequest : Type 0 where
  pub asking : Asking
  pub chunk : ℕ

abbrev pub filter_request : Asking → ℕ → FilterRequest
filter_request asking chunk = record { asking = asking; chunk = chunk }

-- ---- what the output holds

-- A reading of the bytes comes to their Data End, and keeps these records; what is written of the history that repairing makes of
-- them is the file that was put there, and what is answered.
pub record HoldsFiltered (asked : FilterRequest) (bytes : List ℕ) (p : Picked) (well : Bool)
    (before now : Option (List ℕ)) : Type 0 where
  pub tops : List Top
  pub end : ℕ
  pub halts : Halts reading_limits bytes tops (at_end end)
  pub profile : List ℕ
  pub extras : List Top
  pub history : List Rec
  pub repairs : Repairs tops profile extras history
  pub messages : p.messages ≡ length (filter is_message (filtered asked.asking history))
  pub records : p.records ≡ length (filtered asked.asking history)
  -- that file is within the limits of writing
  pub within : FileHolds profile (blocks_in (pieces_of (Some asked.chunk) None (filtered asked.asking history))) (length
      (file_of (recovered_options profile asked.chunk) extras (filtered asked.asking history)))
  pub placed : IsPlaced (file_of (recovered_options profile asked.chunk) extras (filtered asked.asking history)) well
      before now

-- The bytes weren't read to their Data End. The magic, the Header and all ripe blocks of what is written of these good records, which
-- were read, were put there; or nothing, where not even the Header was read, or memory lacked for its profile. It is a first part
-- of the file that is written of all bytes.
pub record HoldsUnread (asked : FilterRequest) (bytes : List ℕ) (left : Option (List ℕ)) (why : ReadingRefused)
    (well : Bool) (before now : Option (List ℕ)) : Type 0 where
  pub tops : List Top
  pub good : Good reading_limits tops
  pub broken : RefusalLeaves why bytes tops left
  pub text : List ℕ
  pub keeps : (IsUnbegun why (LeftAfter bytes left) tops × (text ≡ []))
      ⊎ (V1 bytes × AreRipe (filtered_making asked.asking asked.chunk) tops text)
  pub placed : IsPlaced text well before now
  pub part : (profile : List ℕ) (extras : List Top) (history : List Rec) → Repaired bytes profile extras history
      → IsPrefix text (file_of (recovered_options profile asked.chunk) extras (filtered asked.asking history))

-- The writer stopped at a piece of the file that is written of the bytes, and of what was read of them. What it had written was put
-- there, and of the piece no more than the store took of it in a failure: all that is ripe of the records before the one at hand.
pub record HoldsUnfiled (asked : FilterRequest) (bytes : List ℕ) (left : Option (List ℕ)) (stop : Stop) (well : Bool)
    (before now : Option (List ℕ)) : Type 0 where
  pub magic : V1 bytes
  pub text : List ℕ
  pub placed : IsPlaced text well before now
  pub written : Written
  pub cut : CutShort (filtered_making asked.asking asked.chunk) (LeftAfter bytes left) (EndedBytes bytes left) (Some [])
      (Some text) stop written
  pub stops : (profile : List ℕ) (extras : List Top) (history : List Rec) → Repaired bytes profile extras history
      → StopsAt (recovered_options profile asked.chunk) extras (filtered asked.asking history) (Some []) (Some text)
      stop written

-- of these bytes, of which this is left, by what a filtering answered
abbrev pub FilterOutputHolds : FilterRequest → List ℕ → Option (List ℕ) → Result Picked PickRefused → Bool
    → Option (List ℕ) → Option (List ℕ) → Type 0
FilterOutputHolds asked bytes left (Ok p) well before now = HoldsFiltered asked bytes p well before now
FilterOutputHolds asked bytes left (Err (refusals.Refused why)) well before now =
    HoldsUnread asked bytes left why well before now
FilterOutputHolds asked bytes left (Err (refusals.Stopped stop)) well before now =
    HoldsUnfiled asked bytes left stop well before now

-- ---- the names

-- Both were opened. The source under the one name was filtered into the store under the other, and both were taken back.
pub record BothFiltered (asked : FilterRequest) (input out : List ℕ) (old new : WorldState) (entries : List Opening)
    (result : Result Picked PickRefused) : Type 0 where
  -- as the world gave them and as it took them back, and whether that went well
  pub source : SourceState
  pub back : SourceState
  pub source_kept : Bool
  pub live : LiveState
  pub stored : LiveState
  pub live_kept : Bool
  pub filters : Filters asked.asking asked.chunk source back live stored result
  -- the source told the bytes under the input's name, which is there, where the world tells
  pub tells : TellsName old input source
  pub unused : source.faults ≡ 0
  pub live_unused : live.faults ≡ 0
  -- and then the output's name holds what was filtered of these bytes, some of which the source may have left
  pub file : (told now : Told) (bytes : List ℕ) → old.told ≡ Some told → new.told ≡ Some now
      → told.names input ≡ Some bytes
      → FilterOutputHolds asked bytes back.left result live_kept (told.names out) (now.names out)
  pub kept_are : entries
      ≡ kept kinds.Source input (record { well = source_kept; faults = back.faults; left = back.left; asked = 0 })
      ∷ kept kinds.Live out (record { well = live_kept; faults = stored.faults; left = None; asked = 0 }) ∷ []

-- the answer where memory lacked for an opening
abbrev pub filter_lacks : Filtering
filter_lacks = filterings.Refused (refusals.Refused scans.Memory)

-- the last opening was refused: a failure has its entry, a want of memory none
abbrev pub RefusesFiltering : List Opening → Filtering → Type 0
RefusesFiltering [] filtering = filtering ≡ filter_lacks
RefusesFiltering (entry ∷ []) filtering = ((entry.given ≡ false) × (filtering ≡ filterings.Unopened))
    ⊎ ((entry.given ≡ true) × (filtering ≡ filter_lacks))
RefusesFiltering (entry ∷ other ∷ more) filtering = (other.given ≡ false) × (filtering ≡ filterings.Unopened)

abbrev pub filtering_of : Result Picked PickRefused → Filtering
filtering_of (Ok p) = filterings.Made p
filtering_of (Err why) = filterings.Refused why

-- what became of both names
abbrev pub IsFiltering : FilterRequest → List ℕ → List ℕ → WorldState → WorldState → List Opening → Filtering → Type 0
IsFiltering asked input out old new entries filtering = (RefusesFiltering entries filtering × Unreached out old new entries)
    ⊎ ((result : Result Picked PickRefused) × (filtering ≡ filtering_of result) × BothFiltered asked input out old new entries result)

-- ---- the line

-- filtered messages=M records=R
unfoldable pub filtered_line : Picked → List ℕ
filtered_line p = number_after_name (codes "filtered messages=") p.messages
    ++ (number_after_name (codes " records=") p.records ++ codes "\n")

-- how the filtering ended; an input that isn't read to its Data End is told as by the commands that read one
abbrev pub unfiltered_ending : List ℕ → PickRefused → WritingEnding
unfiltered_ending input (refusals.Refused why) = ending_at 0 (refusal_ending input why)
unfiltered_ending input (refusals.Stopped stop) = stop_ending stop

abbrev pub ending_of_filtering : List ℕ → Filtering → WritingEnding
ending_of_filtering input filterings.Unopened = failing
ending_of_filtering input (filterings.Made p) = was_written (filtered_line p)
ending_of_filtering input (filterings.Refused why) = unfiltered_ending input why

-- ---- the status

-- a fault is a count that rose; what else refuses the reading is what halts a reading of the bytes, or want of memory
abbrev pub UnreadDecides : List ℕ → ReadingRefused → Status → Type 0
UnreadDecides bytes (scans.Fault faults) status = ⊥
UnreadDecides bytes (scans.Grammar offset rule) status =
    ((tops : List Top) × Halts reading_limits bytes tops (breaks offset rule)) × (status ≡ statuses.Refused)
UnreadDecides bytes (scans.Compressed offset name) status =
    ((tops : List Top) × Halts reading_limits bytes tops (names_compression offset name)) × (status ≡ statuses.Refused)
UnreadDecides bytes (scans.Limit offset) status =
    ((tops : List Top) × Halts reading_limits bytes tops (beyond offset)) × (status ≡ statuses.Limit)
UnreadDecides bytes scans.Memory status = status ≡ statuses.Memory

abbrev pub FilterStopDecides : List ℕ → Stop → Status → Type 0
FilterStopDecides bytes (stops.Fault faults) status = ⊥
FilterStopDecides bytes (stops.Limit blocks written) status = V1 bytes × (status ≡ statuses.Limit)
FilterStopDecides bytes stops.Memory status = status ≡ statuses.Memory

-- Where nothing failed, the bytes decide, but for want of memory and for the limit of the output.
abbrev pub FilterDecides : List ℕ → Filtering → Status → Type 0
FilterDecides bytes filterings.Unopened status = ⊥
FilterDecides bytes (filterings.Made p) status = ReachesDataEnd bytes × (status ≡ statuses.Done)
FilterDecides bytes (filterings.Refused (refusals.Refused why)) status = UnreadDecides bytes why status
FilterDecides bytes (filterings.Refused (refusals.Stopped stop)) status = FilterStopDecides bytes stop status

-- ---- the command

-- what `filter` does
pub record FiltersFile (asked : FilterRequest) (input out : List ℕ) (old new : Scene) (status : Status) : Type 0 where
  -- the input is opened as a source, and then the output; this is what the filtering came to, and what the output holds of it
  pub entries : List Opening
  pub filtering : Filtering
  pub comes : IsFiltering asked input out old.world new.world entries filtering
  -- standard output takes the line of what was filtered, and standard error the troubles
  pub ran : ReadsSomeWritesOne (both_names input out) old new entries (ending_of_filtering input filtering) status
  -- where the world tells, the bytes under the input's name decide, unless a count rises
  pub decided : (told : Told) (bytes : List ℕ) → old.world.told ≡ Some told → told.names input ≡ Some bytes
      → (AnyRose (counts_in old) (counts_in new) → ⊥) → FilterDecides bytes filtering status
