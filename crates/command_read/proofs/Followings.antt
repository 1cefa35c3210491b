-- What the endings of a printing by the indexes say of it, and of its file.
use Rattle.std.proofs.Common.{◌≡◌, ℕ, List, Some, Result, Ok, Err, refl}
use Rattle.mcap_io.specs.Stores.{StoreState}
use Rattle.mcap_io.specs.declared.outside.ObjectKind.TheVariants as kinds
use Rattle.mcap_io.specs.declared.outside.OutsideRefused.{OutsideRefused}
use Rattle.mcap_io.specs.declared.outside.OutsideRefused.TheVariants as outside_refusals
use Rattle.mcap_model.specs.Tops.{Top}
use Rattle.mcap_model.specs.Kept.{reading_limits, at_end, Halts}
use Rattle.mcap_model.specs.Scan.{Seen, Scan}
use Rattle.mcap_model.specs.Valid.{IsFullyIndexed}
use Rattle.mcap_model.specs.declared.refusals.ReadingRefused.TheVariants as refusals
use Rattle.mcap_model.specs.declared.refusals.IndexedRefused.{IndexedRefused}
use Rattle.mcap_model.specs.declared.refusals.IndexedRefused.TheVariants as by_index
use Rattle.command_base.specs.declared.file_reading.Reading.{Reading}
use Rattle.command_base.specs.declared.file_reading.Reading.TheVariants as readings
use Rattle.command_base.specs.declared.statuses.Status.{Status}
use Rattle.command_base.specs.Ran.{Scene}
use Rattle.command_base.specs.OneFile.{failing}
use Rattle.command_base.specs.Readings.{StoreUse, IsStoreRead, ReadsFile}
use Rattle.command_base.proofs.ReadNames.{store_shows}
use Rattle.command_read.specs.Cat.{Selection}
use Rattle.command_read.specs.Indexed.{IndexedComesTo, replay_ending, ShowsLed, ShowsScan, IndexedCats}

-- ---- the bytes decide

module _ (asked : Selection) (file bytes : List ℕ) where
  -- what came of a reading that didn't fail
  abbrev Decided : Reading (List ℕ) IndexedRefused → Type 0
  Decided reading = (replay_ending file reading ≡ failing → ⊥) → ShowsLed asked bytes reading

  unopened_so : (why : OutsideRefused) → Decided (readings.Unopened why)
  unopened_so outside_refusals.Failed other = other refl
  unopened_so outside_refusals.Memory other = tt

  shows_so : (store : StoreState) (now : StoreUse) (came : Result (List ℕ) IndexedRefused) → store.bytes ≡ Some bytes → IndexedComesTo asked store now came → Decided (readings.Opened came)
  shows_so store now (Ok text) here comes other =
      let led = comes.1.plays bytes here in
      (led.shown, led.replay, comes.2 led.shown led.shows)
  shows_so store now (Err why) here comes other = comes.plays bytes here

module _ (asked : Selection) (bytes : List ℕ) (tops : List Top) (end : ℕ) (messages : List Seen) (full : IsFullyIndexed bytes) (halts : Halts reading_limits bytes tops (at_end end)) (scan : Scan tops messages) where
  scan_so : (store : StoreState) (now : StoreUse) (came : Result (List ℕ) IndexedRefused) → store.bytes ≡ Some bytes → IndexedComesTo asked store now came → ShowsScan asked messages (readings.Opened came)
  scan_so store now (Ok text) here comes =
      let played = comes.1.scanned bytes tops end messages here full halts scan in
      (played.0, played.1, comes.2 played.0 played.2)
  scan_so store now (Err (by_index.NotIndexed why)) here comes = comes.scanned bytes tops end messages here full halts scan
  scan_so store now (Err (by_index.Refused (refusals.Fault faults))) here comes = tt
  scan_so store now (Err (by_index.Refused (refusals.Grammar n rule))) here comes = comes.scanned bytes tops end messages here full halts scan
  scan_so store now (Err (by_index.Refused (refusals.Compressed n name))) here comes = comes.scanned bytes tops end messages here full halts scan
  scan_so store now (Err (by_index.Refused (refusals.Limit n))) here comes = tt
  scan_so store now (Err (by_index.Refused refusals.Memory)) here comes = tt

-- ---- the command

-- all that the program promises of a printing by the indexes
pub printed : (asked : Selection) (file : List ℕ) (old new : Scene) (answer : Status) → ReadsFile (IsStoreRead (IndexedComesTo asked) file) kinds.Store file (replay_ending file) old new answer → IndexedCats asked file old new answer
printed asked file old new answer reads = record {
  reads = reads;
  decided = λ told bytes here there quiet.
      let (unnamed, unfailing, is) = reads.ran.calm quiet in
      store_shows (Decided asked file bytes) file bytes old.world told here there (unopened_so asked file bytes) (IndexedComesTo asked) (shows_so asked file bytes) reads.entries reads.reading reads.read unfailing;
  scanned = λ told bytes tops end messages here there full halts scan.
      store_shows (ShowsScan asked messages) file bytes old.world told here there (λ why. tt) (IndexedComesTo asked) (scan_so asked bytes tops end messages full halts scan) reads.entries reads.reading reads.read;
}
