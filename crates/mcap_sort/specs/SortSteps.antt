-- The steps of a sort, and what is written of it when the writing ends.
use Rattle.std.specs.Prelude.{◌≡◌, ◌⊎◌, ℕ, ◌≤◌, List, [], ◌∷◌, ◌++◌, length, filter, IsPermutation, Result, Ok, Err}
use Rattle.std.specs.List.{AllZip}
use Rattle.mcap_wire.specs.Layout.{content_limit}
use Rattle.rec_data.specs.declared.owned.Rec.{Rec}
use Rattle.mcap_io.specs.Outside.{LiveState, Adds}
use Rattle.mcap_io.specs.Stores.{StoreState}
use Rattle.mcap_model.specs.declared.options.FileOptions.{FileOptions}
use Rattle.mcap_model.specs.declared.refusals.ReadingRefused.{ReadingRefused}
use Rattle.mcap_model.specs.declared.ends.Stop.{Stop}
use Rattle.mcap_model.specs.declared.ends.Stop.TheVariants as stops
use Rattle.mcap_model.specs.Tops.{Top}
use Rattle.mcap_model.specs.History.{is_message}
use Rattle.mcap_model.specs.Blocks.{pieces_of, blocks_in}
use Rattle.mcap_model.specs.File.{file_of}
use Rattle.chunk_writer.specs.Limits.{FileHolds}
use Rattle.chunk_writer.specs.declared.tape.Written.{Written}
use Rattle.chunk_writer.specs.Stops.{StopsAt}
use Rattle.merge_walk.specs.declared.turns.Turn.{Turn}
use Rattle.merge_walk.specs.declared.walk.Walk.{Walk}
use Rattle.merge_walk.specs.Pieces.{InputBytes, pieces_with}
use Rattle.merge_walk.specs.Walks.{Text, pieces_in, WalkStands, AllGiven}
use Rattle.mcap_merge.specs.declared.answers.MergeRefused.{MergeRefused}
use Rattle.mcap_merge.specs.declared.answers.MergeRefused.TheVariants as merges
use Rattle.mcap_merge.specs.ReadInputs.{Read}
use Rattle.mcap_merge.specs.Inputs.{extra_tops}
use Rattle.mcap_merge.specs.Reading.{IsReadOf}
use Rattle.mcap_merge.specs.ReadingSteps.{SpansFit, IsRefusalAt}
use Rattle.mcap_merge.specs.Turns.{stop_of}
use Rattle.record_keeping.specs.Keeping.{counted}
use Rattle.mcap_sort.specs.declared.answers.SortCounts.{SortCounts}
use Rattle.mcap_sort.specs.declared.answers.SortRefused.{SortRefused}
use Rattle.mcap_sort.specs.declared.answers.SortRefused.TheVariants as refusals
use Rattle.mcap_sort.specs.declared.gathering.Gathered.{Gathered}
use Rattle.mcap_sort.specs.declared.sorting.Ready.{Ready}
use Rattle.mcap_model.specs.Needed.{with_needs}
use Rattle.mcap_sort.specs.Declaring.{Finds}
use Rattle.mcap_sort.specs.Gathering.{HoldsGathered}
use Rattle.mcap_sort.specs.Turns.{IsRecOfTurn}
use Rattle.mcap_sort.specs.Sorting.{sorted_options, HaltsReading, IsReadable}

-- the store was read, and all that is needed for the writing is there
pub record IsReady (old new : StoreState) (chunk : ℕ) (r : Ready) : Type 0 where
  pub read : Read
  pub is : IsReadOf old read
  pub holds : HoldsGathered read r.gathered
  pub still : new.faults ≡ old.faults
  pub fits : SpansFit new r.gathered.input
  pub options_are : r.options ≡ sorted_options r.gathered.input.profile chunk
  pub short : length r.options.profile ≤ content_limit
  pub pieces : IsPermutation (pieces_with 0 r.gathered.input.spans.items) (pieces_in r.walk)
  pub stands : (files : InputBytes) → WalkStands files r.walk [] []

-- or it wasn't, for that reason; or memory lacked after that
abbrev pub IsUnready : StoreState → StoreState → MergeRefused → Type 0
IsUnready old new why = ((reading : ReadingRefused) × HaltsReading old new reading × IsRefusalAt 0 reading why)
    ⊎ ((new.faults ≡ old.faults) × (why ≡ merges.Stopped stops.Memory) × IsReadable old)

-- what is written: what the store tells, what was held of it, and a walk that has given nothing
pub record Start : Type 0 where
  pub files : InputBytes
  pub gathered : Gathered
  pub walk : Walk

abbrev pub start : InputBytes → Gathered → Walk → Start
start files gathered walk = record { files = files; gathered = gathered; walk = walk }

-- all turns of a walk through the same pieces were given, and this holds of their messages with what they need
pub record AllPut (from : Start) (holds : List Rec → Type 0) : Type 0 where
  pub walk : Walk
  pub pieces : walk.pieces ≡ from.walk.pieces
  pub texts : List Text
  pub given : List Turn
  pub all : AllGiven from.files (pieces_in walk) texts given
  pub records : List Rec
  pub are : AllZip (IsRecOfTurn from.gathered.input texts) given records
  pub so : (history : List Rec) → Finds from.gathered.declared history → holds (with_needs history records)

-- some were, and it holds of theirs with whatever would have come after them
pub record SomePut (from : Start) (holds : List Rec → Type 0) : Type 0 where
  pub walk : Walk
  pub pieces : walk.pieces ≡ from.walk.pieces
  pub texts : List Text
  pub given : List Turn
  pub stands : WalkStands from.files walk texts given
  pub records : List Rec
  pub are : AllZip (IsRecOfTurn from.gathered.input texts) given records
  pub so : (history : List Rec) → Finds from.gathered.declared history → (more : List Rec)
      → holds (with_needs history (records ++ more))

-- the file stands after what the store held, within the limits on files, all of it with the system, and these are its counts
pub record IsWhole (options : FileOptions) (extras : List Top) (opened now : LiveState) (p : SortCounts)
    (written : List Rec) : Type 0 where
  pub file : Adds opened.held now.held (file_of options extras written)
  pub messages : p.messages ≡ counted (length (filter is_message written))
  pub records : p.records ≡ counted (length written)
  pub within : FileHolds options.profile (blocks_in (pieces_of options.chunk options.span written)) (length
      (file_of options extras written))
  pub through : now.waiting ≡ 0

-- the writer stopped at a piece of it
abbrev pub IsPart : FileOptions → List Top → LiveState → LiveState → Stop → List Rec → Type 0
IsPart options extras opened now stop written =
    (numbers : Written) × StopsAt options extras written opened.held now.held stop numbers

abbrev pub extras_from : Start → List Top
extras_from from = extra_tops from.gathered.input.extras.items

-- The file was written whole; or the writing was stopped behind some turns, or behind all.
abbrev pub Files : FileOptions → Start → LiveState → LiveState → Result SortCounts MergeRefused → Type 0
Files options from opened now (Ok p) = AllPut from (IsWhole options (extras_from from) opened now p)
Files options from opened now (Err why) = SomePut from (IsPart options (extras_from from) opened now (stop_of why))
    ⊎ ((stop : Stop) × (why ≡ merges.Stopped stop) × AllPut from (IsPart options (extras_from from) opened now stop))

-- what a sort answers for what its steps do, which never lack ids
abbrev pub answer_for : MergeRefused → SortRefused
answer_for (merges.Halted input why) = refusals.Halted why
answer_for (merges.Changed input offset) = refusals.Changed offset
answer_for merges.TooManySchemas = refusals.Stopped stops.Memory
answer_for merges.TooManyChannels = refusals.Stopped stops.Memory
answer_for (merges.Stopped stop) = refusals.Stopped stop

abbrev pub answer_of : Result SortCounts MergeRefused → Result SortCounts SortRefused
answer_of (Ok counts) = Ok counts
answer_of (Err why) = Err (answer_for why)
