-- What the endings of a telling say of it, and of its file.
use Rattle.std.proofs.Common.{◌≡◌, ℕ, List, Some, Result, Ok, Err, refl, sym, subst}
use Rattle.mcap_io.specs.Stores.{StoreState}
use Rattle.mcap_io.specs.declared.outside.ObjectKind.TheVariants as kinds
use Rattle.mcap_io.specs.declared.outside.OutsideRefused.{OutsideRefused}
use Rattle.mcap_io.specs.declared.outside.OutsideRefused.TheVariants as outside_refusals
use Rattle.mcap_model.specs.declared.refusals.ReadingRefused.TheVariants as refusals
use Rattle.mcap_model.specs.declared.refusals.NotIndexed.{NotIndexed}
use Rattle.mcap_model.specs.declared.refusals.NotIndexed.TheVariants as lacks
use Rattle.mcap_model.specs.declared.refusals.IndexedRefused.{IndexedRefused}
use Rattle.mcap_model.specs.declared.refusals.IndexedRefused.TheVariants as by_index
use Rattle.command_base.specs.declared.file_reading.Reading.{Reading}
use Rattle.command_base.specs.declared.file_reading.Reading.TheVariants as readings
use Rattle.command_base.specs.declared.statuses.Status.{Status}
use Rattle.command_base.specs.Printing.{TellsAll}
use Rattle.command_base.specs.Ran.{Scene}
use Rattle.command_base.specs.OneFile.{failing, indexed_ending}
use Rattle.command_base.specs.Readings.{StoreUse, IsStoreRead, ReadsFile}
use Rattle.command_base.proofs.ReadNames.{store_shows, read_is}
use Rattle.command_base.proofs.Refusals.{indexed_is}
use Rattle.command_read.specs.Info.{LacksStatistics, IsUntoldOf, InfoComesTo, info_ending, DescribesBytes, Describes}

-- ---- the bytes decide

module _ (file bytes : List ℕ) where
  untold_so : (store : StoreState) (now : StoreUse) (why : NotIndexed) → store.bytes ≡ Some bytes → LacksStatistics store now why → IsUntoldOf bytes why
  untold_so store now lacks.NoSummary here is = is.0 bytes here
  untold_so store now lacks.NoStatistics here is = (is.0, (is.1.loads bytes here).0, is.2)
  untold_so store now (lacks.ChunkCount stated found) here is = is
  untold_so store now (lacks.NoMessageIndex chunk) here is = is
  untold_so store now (lacks.NoChannel id) here is = is

  -- a description that didn't fail
  abbrev Decided : Reading (List ℕ) IndexedRefused → Type 0
  Decided reading = (info_ending file reading ≡ failing → ⊥) → DescribesBytes bytes reading

  unopened_so : (why : OutsideRefused) → Decided (readings.Unopened why)
  unopened_so outside_refusals.Failed other = other refl
  unopened_so outside_refusals.Memory other = tt

  shows_so : (store : StoreState) (now : StoreUse) (came : Result (List ℕ) IndexedRefused) → store.bytes ≡ Some bytes → InfoComesTo store now came → Decided (readings.Opened came)
  shows_so store now (Ok text) here comes other = (comes.finds.0, (comes.finds.1.loads bytes here).0, comes.finds.2)
  shows_so store now (Err (by_index.NotIndexed why)) here comes other = untold_so store now why here comes.finds
  shows_so store now (Err (by_index.Refused (refusals.Fault faults))) here comes other = other refl
  shows_so store now (Err (by_index.Refused (refusals.Grammar n rule))) here comes other = comes.finds.0 bytes here
  shows_so store now (Err (by_index.Refused (refusals.Compressed n name))) here comes other = comes.finds
  shows_so store now (Err (by_index.Refused (refusals.Limit n))) here comes other = comes.finds.0 bytes here
  shows_so store now (Err (by_index.Refused refusals.Memory)) here comes other = tt

-- ---- the command

-- all that the program promises of a telling
pub describes : (file : List ℕ) (old new : Scene) (answer : Status) → ReadsFile (IsStoreRead InfoComesTo file) kinds.Store file (info_ending file) old new answer → Describes file old new answer
describes file old new answer reads = record {
  reads = reads;
  decided = λ told bytes here there quiet.
      let (unnamed, unfailing, is) = reads.ran.calm quiet in
      store_shows (Decided file bytes) file bytes old.world told here there (unopened_so file bytes) InfoComesTo (shows_so file bytes) reads.entries reads.reading reads.read unfailing;
  whole = λ done.
      let (unnamed, read) = reads.ran.whole done in
      let line = read_is (λ (t : List ℕ). t) (indexed_ending file) (indexed_is file) reads.reading read.0 read.1 in
      (line.0, line.1, subst (λ (t : List ℕ). TellsAll old.out new.out t) (sym line.2) read.2);
}
