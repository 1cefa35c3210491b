-- What a merge comes to.
use Rattle.std.specs.Prelude.{◌≡◌, ◌⊎◌, ℕ, ◌*◌, ◌+◌, ◌<◌, ◌≤◌, List, length, filter, Some, None, Result, Ok, Err}
use Rattle.std.specs.List.{AllZip, flat_map}
use Rattle.rec_data.specs.declared.owned.Rec.{Rec}
use Rattle.mcap_io.specs.Outside.{LiveState, Adds}
use Rattle.mcap_io.specs.Stores.{StoreState}
use Rattle.mcap_model.specs.declared.options.FileOptions.{FileOptions}
use Rattle.mcap_model.specs.declared.refusals.ReadingRefused.{ReadingRefused}
use Rattle.mcap_model.specs.declared.refusals.ReadingRefused.TheVariants as refusals
use Rattle.mcap_model.specs.declared.ends.Stop.{Stop}
use Rattle.mcap_model.specs.declared.ends.Stop.TheVariants as stops
use Rattle.mcap_model.specs.Tops.{Top}
use Rattle.mcap_model.specs.Places.{At, Each}
use Rattle.mcap_model.specs.Blocks.{pieces_of, blocks_in}
use Rattle.mcap_model.specs.Kept.{Good, reading_limits}
use Rattle.mcap_model.specs.File.{file_of}
use Rattle.mcap_model.specs.History.{is_message}
use Rattle.mcap_model.specs.Merged.{MergeOf, CommonProfile}
use Rattle.mcap_model.specs.Repaired.{is_extra}
use Rattle.chunk_writer.specs.Limits.{FileHolds}
use Rattle.chunk_writer.specs.Stops.{numbers, StopsAt, StopCause}
use Rattle.mcap_merge.specs.declared.answers.MergeRefused.{MergeRefused}
use Rattle.mcap_merge.specs.declared.answers.MergeRefused.TheVariants as merges
use Rattle.mcap_merge.specs.declared.answers.Merged.{Merged}
use Rattle.mcap_merge.specs.ReadInputs.{Read, read_tops}
use Rattle.mcap_merge.specs.Reading.{IsReadOf, FaultsStand, InputRose, ReadStopped}
use Rattle.mcap_merge.specs.Gathering.{GatherRefused}
use Rattle.mcap_merge.specs.Sound.{IsSoundHistory}
use Rattle.mcap_merge.specs.Overlap.{IsPeak, IsMostOf}

abbrev pub merged_options : List ℕ → ℕ → FileOptions
merged_options profile chunk = record { profile = profile; chunk = Some chunk; span = None }

-- each store tells its bytes
abbrev pub AllTell : List StoreState → Type 0
AllTell stores = Each (λ s. (bytes : List ℕ) × (s.bytes ≡ Some bytes)) stores

-- The merge of stores, which were read to their Data Ends and had these records, good lists: the profile and the extras are
-- theirs. Whatever the stores give when they are read again, the history is sound; where all tell, it is made of these records.
pub record MergeIs (stores : List StoreState) (profile : List ℕ) (extras : List Top) (history : List Rec) : Type 0 where
  pub reads : List Read
  pub are : AllZip IsReadOf stores reads
  pub good : Each (Good reading_limits) (read_tops reads)
  pub profile_is : CommonProfile (read_tops reads) profile
  pub extras_are : extras ≡ flat_map (filter is_extra) (read_tops reads)
  pub sound : IsSoundHistory extras history
  pub of : AllTell stores → MergeOf (read_tops reads) profile extras history

-- the file of the merge stands behind what the store held, within the limits on files, and all of it is with the system; the
-- counts are those of its records, and the peak is the most that was held, where all stores tell; no store failed
pub record MergesInto (stores news : List StoreState) (opened now : LiveState) (chunk : ℕ) (m : Merged) : Type 0 where
  pub profile : List ℕ
  pub extras : List Top
  pub history : List Rec
  pub is : MergeIs stores profile extras history
  pub messages : m.messages ≡ length (filter is_message history)
  pub records : m.records ≡ length history
  pub peak : IsPeak (read_tops is.reads) m.peak
  pub most : AllTell stores → IsMostOf (read_tops is.reads) m.peak
  pub file : Adds opened.held now.held (file_of (merged_options profile chunk) extras history)
  pub within : FileHolds profile (blocks_in (pieces_of (Some chunk) None history)) (length
      (file_of (merged_options profile chunk) extras history))
  pub inputs_still : AllZip FaultsStand stores news
  pub still : now.faults ≡ opened.faults
  pub through : now.waiting ≡ 0

-- The file stands behind what the store held, within the limits on files, and is with the system; or the writer stopped at a
-- piece of it.
abbrev pub FileStands : FileOptions → List Top → List Rec → LiveState → LiveState → Result Unit Stop → Type 0
FileStands options extras history opened now (Ok it) = Adds opened.held now.held (file_of options extras history)
    × FileHolds options.profile (blocks_in (pieces_of options.chunk options.span history))
    (length (file_of options extras history))
    × (now.waiting ≡ 0)
FileStands options extras history opened now (Err stop) =
    (blocks : ℕ) × (bytes : ℕ) × StopsAt options extras history opened.held now.held stop (numbers blocks bytes)

-- the writer stopped at a piece of the file of the merge
pub record MergeStops (stores : List StoreState) (opened now : LiveState) (chunk : ℕ) (why : MergeRefused)
    : Type 0 where
  pub profile : List ℕ
  pub extras : List Top
  pub history : List Rec
  pub is : MergeIs stores profile extras history
  pub stop : Stop
  pub answer : why ≡ merges.Stopped stop
  pub stands : FileStands (merged_options profile chunk) extras history opened now (Err stop)
  pub cause : StopCause opened.faults now.faults stop

-- the store of that number doesn't tell its bytes
abbrev pub TellsNot : List StoreState → ℕ → Type 0
TellsNot stores number = (s : StoreState) → At stores number s → (bytes : List ℕ) → s.bytes ≡ Some bytes → ⊥

-- the input of that number couldn't be read again: it failed
abbrev pub AgainHalted : List StoreState → List StoreState → ℕ → ReadingRefused → Type 0
AgainHalted olds news input (refusals.Fault faults) = InputRose olds news input faults
AgainHalted olds news input (refusals.Grammar offset rule) = ⊥
AgainHalted olds news input (refusals.Compressed offset name) = ⊥
AgainHalted olds news input (refusals.Limit offset) = ⊥
AgainHalted olds news input refusals.Memory = ⊥

-- Why an input couldn't be read again as it was: it failed; that one gave other bytes, which one that tells doesn't; or memory
-- lacked.
abbrev pub IsCutBy : List StoreState → List StoreState → MergeRefused → Type 0
IsCutBy olds news (merges.Halted input why) = AgainHalted olds news input why
IsCutBy olds news (merges.Changed input offset) =
    (input < length olds) × AllZip FaultsStand olds news × TellsNot olds input
IsCutBy olds news merges.TooManySchemas = ⊥
IsCutBy olds news merges.TooManyChannels = ⊥
IsCutBy olds news (merges.Stopped stop) = ReadStopped olds news stop

-- so the writer was stopped at a piece of the file of the merge, where it lacked nothing itself
pub record MergeIsCut (stores news : List StoreState) (opened now : LiveState) (chunk : ℕ) (why : MergeRefused)
    : Type 0 where
  pub profile : List ℕ
  pub extras : List Top
  pub history : List Rec
  pub is : MergeIs stores profile extras history
  pub stands : FileStands (merged_options profile chunk) extras history opened now (Err stops.Memory)
  pub still : now.faults ≡ opened.faults
  pub cause : IsCutBy stores news why

-- nothing was written; or the writer stopped behind inputs that were read whole; or one of them couldn't be read again
abbrev pub MergeFails : List StoreState → List StoreState → LiveState → LiveState → ℕ → MergeRefused → Type 0
MergeFails olds news opened now chunk why = ((now ≡ opened) × GatherRefused olds news why)
    ⊎ ((AllZip FaultsStand olds news × MergeStops olds opened now chunk why) ⊎ MergeIsCut olds news opened now chunk why)

-- no store was asked for more bytes than twice the length that it has answered
pub record AsksTwice (old new : StoreState) : Type 0 where
  pub twice : new.asked ≤ old.asked + 2 * new.known
