-- What a sort leaves, and what it answers.
use Rattle.std.specs.Prelude.{◌≡◌, ◌⊎◌, ℕ, ◌+◌, ◌≤◌, List, [], ◌∷◌, length, filter, find, drop, AllPairs, Some, None, Result, Ok, Err}
use Rattle.rec_data.specs.declared.owned.Rec.{Rec}
use Rattle.rec_data.specs.declared.owned.Rec.TheVariants.{Schema, Channel, Message, Extra}
use Rattle.mcap_io.specs.Outside.{LiveState, RisesOnce, Adds}
use Rattle.mcap_io.specs.Stores.{StoreState}
use Rattle.mcap_model.specs.declared.options.FileOptions.{FileOptions}
use Rattle.mcap_model.specs.declared.refusals.ReadingRefused.{ReadingRefused}
use Rattle.mcap_model.specs.declared.refusals.ReadingRefused.TheVariants as readings
use Rattle.mcap_model.specs.declared.ends.Stop.{Stop}
use Rattle.mcap_model.specs.declared.ends.Stop.TheVariants as stops
use Rattle.mcap_model.specs.Places.{Each}
use Rattle.mcap_model.specs.Tops.{Top}
use Rattle.mcap_model.specs.Kept.{Good, reading_limits}
use Rattle.mcap_model.specs.History.{is_message}
use Rattle.mcap_model.specs.Blocks.{pieces_of, blocks_in}
use Rattle.mcap_model.specs.File.{file_of}
use Rattle.mcap_model.specs.Repaired.{Repairs}
use Rattle.chunk_writer.specs.Limits.{FileHolds}
use Rattle.chunk_writer.specs.declared.tape.Written.{Written}
use Rattle.chunk_writer.specs.Stops.{StopsAt, StopCause}
use Rattle.mcap_scan.specs.Sources.{MemoryLeaves}
use Rattle.mcap_merge.specs.ReadInputs.{Read}
use Rattle.mcap_merge.specs.Reading.{IsReadOf}
use Rattle.mcap_merge.specs.ReadingSteps.{StoreKeeps, StoreRefused}
use Rattle.mcap_merge.specs.Sound.{LoggedInTurn}
use Rattle.mcap_merge.specs.Filed.{AsksTwice}
use Rattle.mcap_sort.specs.declared.answers.SortCounts.{SortCounts}
use Rattle.mcap_sort.specs.declared.answers.SortRefused.{SortRefused}
use Rattle.mcap_sort.specs.declared.answers.SortRefused.TheVariants as refusals
use Rattle.mcap_model.specs.Needed.{is_channel_of, with_needs}
use Rattle.mcap_sort.specs.Sorted.{Sorts}

abbrev pub sorted_options : List ℕ → ℕ → FileOptions
sorted_options profile chunk = record { profile = profile; chunk = Some chunk; span = None }

-- a Message on a channel that the history declares
abbrev pub IsOnDeclared : List Rec → Rec → Type 0
IsOnDeclared history (Schema id schema) = ⊥
IsOnDeclared history (Channel id schema topic encoding metadata) = ⊥
IsOnDeclared history (Message channel sequence log_time publish_time payload) =
    (c : Rec) × (find (is_channel_of channel) history ≡ Some c)
IsOnDeclared history (Extra op content) = ⊥

-- such Messages, none of which was logged before one in front of it
pub record AreInTime (history messages : List Rec) : Type 0 where
  pub declared : Each (IsOnDeclared history) messages
  pub rise : AllPairs LoggedInTurn messages

-- The sort of a store, which was read to its Data End and had these records, good ones: the profile and the extras are theirs.
-- Whatever the store gives when it is read again, messages in the order of their times are written with what they need; where it
-- tells, they are those of the records.
pub record SortIs (store : StoreState) (profile : List ℕ) (extras : List Top) (written : List Rec) : Type 0 where
  pub read : Read
  pub is : IsReadOf store read
  pub good : Good reading_limits read.tops
  pub history : List Rec
  pub repairs : Repairs read.tops profile extras history
  pub messages : List Rec
  pub in_time : AreInTime history messages
  pub written_is : written ≡ with_needs history messages
  pub of : (bytes : List ℕ) → store.bytes ≡ Some bytes → Sorts read.tops profile extras written

-- The file of the sort stands after what the live store held, within the limits on files, and all of it is with the system; the
-- counts are those of its records; no store failed.
pub record SortsInto (old new : StoreState) (opened now : LiveState) (chunk : ℕ) (p : SortCounts) : Type 0 where
  pub profile : List ℕ
  pub extras : List Top
  pub written : List Rec
  pub is : SortIs old profile extras written
  pub messages : p.messages ≡ length (filter is_message written)
  pub records : p.records ≡ length written
  pub file : Adds opened.held now.held (file_of (sorted_options profile chunk) extras written)
  pub within : FileHolds profile (blocks_in (pieces_of (Some chunk) None written)) (length
      (file_of (sorted_options profile chunk) extras written))
  pub input_still : new.faults ≡ old.faults
  pub still : now.faults ≡ opened.faults
  pub through : now.waiting ≡ 0

-- the writer stopped so at a piece of the file of the sort
pub record SortStops (old : StoreState) (opened now : LiveState) (chunk : ℕ) (stop : Stop) : Type 0 where
  pub profile : List ℕ
  pub extras : List Top
  pub written : List Rec
  pub is : SortIs old profile extras written
  pub numbers : Written
  pub stops : StopsAt (sorted_options profile chunk) extras written opened.held now.held stop numbers
  pub cause : StopCause opened.faults now.faults stop

-- Memory lacked where the store was read first: after good records, for what comes next, which breaks no rule as far as that is
-- told without memory. No more bytes were asked for than those up to there.
pub record LacksReading (old new : StoreState) : Type 0 where
  pub still : new.faults ≡ old.faults
  pub tops : List Top
  pub good : Good reading_limits tops
  pub next : ℕ
  pub asked : new.asked ≤ old.asked + next
  pub leaves : (bytes : List ℕ) → old.bytes ≡ Some bytes → MemoryLeaves bytes tops (Some (drop next bytes))

-- why the store wasn't read to its Data End
abbrev pub HaltsReading : StoreState → StoreState → ReadingRefused → Type 0
HaltsReading old new (readings.Fault faults) = StoreRefused old new (readings.Fault faults)
HaltsReading old new (readings.Grammar offset rule) = StoreRefused old new (readings.Grammar offset rule)
HaltsReading old new (readings.Compressed offset name) = StoreRefused old new (readings.Compressed offset name)
HaltsReading old new (readings.Limit offset) = StoreRefused old new (readings.Limit offset)
HaltsReading old new readings.Memory = LacksReading old new

-- it can be read to its Data End
abbrev pub IsReadable : StoreState → Type 0
IsReadable old = (r : Read) × IsReadOf old r × Good reading_limits r.tops

-- Why a file wasn't sorted. What the input is was found before anything was written. Where it failed or changed later, the writer
-- stopped at a piece of the file, though it lacked nothing itself; only an input that tells nothing changes.
abbrev pub SortFails : StoreState → StoreState → LiveState → LiveState → ℕ → SortRefused → Type 0
SortFails old new opened now chunk (refusals.Halted (readings.Fault faults)) = RisesOnce old.faults new.faults
    × (faults ≡ new.faults) × ((now ≡ opened) ⊎ SortStops old opened now chunk stops.Memory)
SortFails old new opened now chunk (refusals.Halted (readings.Grammar offset rule)) =
    (now ≡ opened) × StoreRefused old new (readings.Grammar offset rule)
SortFails old new opened now chunk (refusals.Halted (readings.Compressed offset name)) =
    (now ≡ opened) × StoreRefused old new (readings.Compressed offset name)
SortFails old new opened now chunk (refusals.Halted (readings.Limit offset)) =
    (now ≡ opened) × StoreRefused old new (readings.Limit offset)
SortFails old new opened now chunk (refusals.Halted readings.Memory) = ⊥
SortFails old new opened now chunk (refusals.Changed offset) = (new.faults ≡ old.faults)
    × ((bytes : List ℕ) → old.bytes ≡ Some bytes → ⊥) × SortStops old opened now chunk stops.Memory
SortFails old new opened now chunk (refusals.Stopped stop) = (new.faults ≡ old.faults)
    × (((now ≡ opened) × (stop ≡ stops.Memory) × (LacksReading old new ⊎ IsReadable old))
    ⊎ SortStops old opened now chunk stop)

abbrev pub SortsSo : ℕ → StoreState → StoreState → LiveState → LiveState → Result SortCounts SortRefused → Type 0
SortsSo chunk old new opened now (Ok p) = SortsInto old new opened now chunk p
SortsSo chunk old new opened now (Err why) = SortFails old new opened now chunk why

-- this holds of the only store, before and after
abbrev pub OfOne : List StoreState → List StoreState → (StoreState → StoreState → Type 0) → Type 0
OfOne olds news holds = (old new : StoreState) × (olds ≡ old ∷ []) × (news ≡ new ∷ []) × holds old new
