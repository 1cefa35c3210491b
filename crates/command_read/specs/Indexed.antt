-- What the printing of a file by its indexes did: to the names of the world, to both outputs, and how it ended.
use Rattle.std.specs.Prelude.{◌≡◌, ℕ, List, Some, Result, Ok, Err}
use Rattle.mcap_io.specs.Outside.{Told}
use Rattle.mcap_io.specs.Stores.{StoreState}
use Rattle.mcap_io.specs.declared.outside.ObjectKind.TheVariants as kinds
use Rattle.mcap_io.specs.declared.outside.OutsideRefused.TheVariants as outside_refusals
use Rattle.mcap_model.specs.declared.replay.Replayed.{Replayed}
use Rattle.mcap_model.specs.Tops.{Top}
use Rattle.mcap_model.specs.Kept.{reading_limits, at_end, Halts}
use Rattle.mcap_model.specs.Scan.{Seen, Scan, Replay}
use Rattle.mcap_model.specs.Showing.{Shows}
use Rattle.time_player.specs.Text.{cat_text}
use Rattle.mcap_model.specs.Valid.{IsFullyIndexed}
use Rattle.mcap_model.specs.Led.{LedReplay}
use Rattle.mcap_model.specs.declared.refusals.ReadingRefused.{ReadingRefused}
use Rattle.mcap_model.specs.declared.refusals.ReadingRefused.TheVariants as refusals
use Rattle.mcap_model.specs.declared.refusals.IndexedRefused.{IndexedRefused}
use Rattle.mcap_model.specs.declared.refusals.IndexedRefused.TheVariants as by_index
use Rattle.indexed_replay.specs.Holding.{TellsRoom}
use Rattle.indexed_replay.specs.Replaying.{IsReason, PlaysIndexed, TellsChunks, TellsNoSummary, PlaysScan, ReplayCause}
use Rattle.indexed_replay.specs.Played.{AsksIndexed, AsksUnloaded, AsksBound}
use Rattle.command_base.specs.declared.statuses.Status.{Status}
use Rattle.command_base.specs.declared.file_reading.Reading.{Reading}
use Rattle.command_base.specs.declared.file_reading.Reading.TheVariants as readings
use Rattle.command_base.specs.Texts.{not_indexed, flaw}
use Rattle.command_base.specs.Ran.{Scene, counts_in, AnyRose}
use Rattle.command_base.specs.OneFile.{Ending, halted, failing, refusal_ending}
use Rattle.command_base.specs.Readings.{ending_of, StoreUse, IsStoreRead, ReadsFile}
use Rattle.command_read.specs.Cat.{Selection}

-- ---- the file

-- the store with these counts of faults and of bytes that it was asked for
abbrev pub now_of : StoreState → StoreUse → StoreState
now_of store now = record { bytes = store.bytes; known = store.known; faults = now.faults; asked = now.asked }

-- what a replay of a store by its indexes comes to
pub record Replays (asked : Selection) (store now : StoreState) (answer : Result Replayed IndexedRefused) : Type 0 where
  -- just the messages to which the indexes lead, or a reason that holds of the bytes
  pub plays : PlaysIndexed store.bytes asked.range asked.topic answer
  pub counted : TellsChunks store.bytes answer
  pub unsummed : TellsNoSummary store.bytes answer
  -- of a fully indexed file those of its scan
  pub scanned : PlaysScan store.bytes asked.range asked.topic answer
  -- the messages have no more data than the file
  pub room : TellsRoom store.bytes answer
  -- of the file no more is asked for than its ends, its summary, and what the indexes lead to
  pub asks : AsksIndexed asked.range asked.topic store now
  -- of one whose summary can't be loaded no more than its ends and the summary
  pub unloaded : AsksUnloaded store now
  -- and of a fully indexed file no more than the Message Indexes and the messages that are asked for besides
  pub bounded : AsksBound asked.range asked.topic store now
  pub cause : ReplayCause store.faults now.faults answer

-- the lines of the messages that were replayed
abbrev pub AreReplayedLines : Replayed → List ℕ → Type 0
AreReplayedLines played text = (messages : List Seen) → Shows played messages → text ≡ cat_text messages

-- what the reading of a store came to
abbrev pub IndexedComesTo : Selection → StoreState → StoreUse → Result (List ℕ) IndexedRefused → Type 0
IndexedComesTo asked store now (Ok text) =
    (played : Replayed) × Replays asked store (now_of store now) (Ok played) × AreReplayedLines played text
IndexedComesTo asked store now (Err why) = Replays asked store (now_of store now) (Err why)

-- ---- how that ended

-- a rule that is broken is told by its number
abbrev pub broken_ending : List ℕ → ReadingRefused → Ending
broken_ending file (refusals.Fault faults) = failing
broken_ending file (refusals.Grammar n rule) = halted (flaw file rule n)
broken_ending file (refusals.Compressed n name) = refusal_ending file (refusals.Compressed n name)
broken_ending file (refusals.Limit n) = refusal_ending file (refusals.Limit n)
broken_ending file refusals.Memory = refusal_ending file refusals.Memory

abbrev pub led_ending : List ℕ → IndexedRefused → Ending
led_ending file (by_index.NotIndexed why) = halted (not_indexed file why)
led_ending file (by_index.Refused why) = broken_ending file why

abbrev pub replay_ending : List ℕ → Reading (List ℕ) IndexedRefused → Ending
replay_ending file reading = ending_of (λ text. text) (led_ending file) reading

-- Where nothing failed, the lines are those of the messages to which the indexes in these bytes lead, or the reason holds
-- of them.
abbrev pub ShowsLed : Selection → List ℕ → Reading (List ℕ) IndexedRefused → Type 0
ShowsLed asked bytes (readings.Unopened outside_refusals.Failed) = ⊥
ShowsLed asked bytes (readings.Unopened outside_refusals.Memory) = Unit {0}
ShowsLed asked bytes (readings.Opened (Ok text)) =
    (shown : List Seen) × LedReplay bytes asked.range asked.topic shown × (text ≡ cat_text shown)
ShowsLed asked bytes (readings.Opened (Err why)) = IsReason bytes asked.range why

-- the store failed, a limit is passed or memory lacked
abbrev pub IsNoFlaw : IndexedRefused → Type 0
IsNoFlaw (by_index.NotIndexed why) = ⊥
IsNoFlaw (by_index.Refused (refusals.Fault faults)) = Unit {0}
IsNoFlaw (by_index.Refused (refusals.Grammar n rule)) = ⊥
IsNoFlaw (by_index.Refused (refusals.Compressed n name)) = ⊥
IsNoFlaw (by_index.Refused (refusals.Limit n)) = Unit {0}
IsNoFlaw (by_index.Refused refusals.Memory) = Unit {0}

-- the lines are those of the messages of a scan that are asked for; or it isn't the file's fault that there are none
abbrev pub ShowsScan : Selection → List Seen → Reading (List ℕ) IndexedRefused → Type 0
ShowsScan asked messages (readings.Unopened why) = Unit {0}
ShowsScan asked messages (readings.Opened (Ok text)) =
    (shown : List Seen) × Replay asked.range asked.topic messages shown × (text ≡ cat_text shown)
ShowsScan asked messages (readings.Opened (Err why)) = IsNoFlaw why

-- ---- the command

-- what `cat --indexed` does
pub record IndexedCats (asked : Selection) (file : List ℕ) (old new : Scene) (status : Status) : Type 0 where
  -- the file is read as a store; standard output takes the lines of the messages, and standard error the troubles
  pub reads : ReadsFile (IsStoreRead (IndexedComesTo asked) file) kinds.Store file (replay_ending file) old new status
  -- where the world tells, the bytes under the name decide what it came to, unless a count rises
  pub decided : (told : Told) (bytes : List ℕ) → old.world.told ≡ Some told → told.names file ≡ Some bytes
      → (AnyRose (counts_in old) (counts_in new) → ⊥) → ShowsLed asked bytes reads.reading
  -- and a fully indexed file that is read to its Data End is printed as its scan is
  pub scanned : (told : Told) (bytes : List ℕ) (tops : List Top) (end : ℕ) (messages : List Seen)
      → old.world.told ≡ Some told → told.names file ≡ Some bytes → IsFullyIndexed bytes
      → Halts reading_limits bytes tops (at_end end) → Scan tops messages → ShowsScan asked messages reads.reading
