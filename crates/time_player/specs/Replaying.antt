-- What a replay of a source comes to.
use Rattle.std.specs.Prelude.{◌≡◌, ℕ, List, Option, Result, Ok, Err, map, filter}
use Rattle.mcap_model.specs.declared.replay.Range.{Range}
use Rattle.mcap_model.specs.declared.replay.Replayed.{Replayed}
use Rattle.mcap_model.specs.declared.tables.Tables.{Tables}
use Rattle.mcap_model.specs.Tops.{Top, flat}
use Rattle.mcap_model.specs.Kept.{reading_limits, Good, at_end}
use Rattle.mcap_model.specs.Scan.{Seen, Scan, Replay}
use Rattle.mcap_model.specs.Declarations.{TablesOf}
use Rattle.mcap_model.specs.declared.replay.Shown.{Shown}
use Rattle.mcap_model.specs.Showing.{shown_as, Shows}
use Rattle.time_player.specs.Text.{cat_text}
use Rattle.mcap_model.specs.declared.refusals.ReadingRefused.{ReadingRefused}
use Rattle.mcap_io.specs.Outside.{SourceState}
use Rattle.mcap_scan.specs.RefusedReadings.{HaltsSo, MemoryStands, RefusalStands}
use Rattle.time_player.specs.declared.kept.Kept.{Kept}
use Rattle.time_player.specs.Asking.{is_asked}
use Rattle.time_player.specs.Keeping.{kept_in}
use Rattle.time_player.specs.Stretches.{TimedLine, timed_lines}

-- these are the messages of records that are good, and the tables of those records
pub record IsGoodScan (tops : List Top) (tables : Tables) (messages : List Seen) : Type 0 where
  pub good : Good reading_limits tops
  pub tables_are : TablesOf (flat tops) tables
  pub scan : Scan tops messages

-- of these messages those that are asked for are shown
pub record IsPlayed (range : Range) (topic : Option (List ℕ)) (messages : List Seen) (played : Replayed) : Type 0 where
  pub shown : List Seen
  pub replay : Replay range topic messages shown
  pub shows : Shows played shown

-- these are the lines of those that are asked for
abbrev pub AreLines : Range → Option (List ℕ) → List Seen → List ℕ → Type 0
AreLines range topic messages text = (shown : List Seen) × Replay range topic messages shown × (text ≡ cat_text shown)

-- The source was read to its Data End, these are its tables, and of its messages those that are asked for were kept. Memory
-- that lacks from then on lacks behind its records.
pub record KeepsAll (range : Range) (topic : Option (List ℕ)) (before now : SourceState) (tables : Tables)
    (kept : List Shown) : Type 0 where
  pub tops : List Top
  pub end : ℕ
  pub messages : List Seen
  pub halts : HaltsSo before now tops (at_end end)
  pub lacks : MemoryStands before now tops
  pub told : IsGoodScan tops tables messages
  pub kept_are : kept ≡ map shown_as (filter (is_asked range topic) messages)

abbrev pub ReadsKept : Range → Option (List ℕ) → SourceState → SourceState → Result (Tables × Kept) ReadingRefused
    → Type 0
ReadsKept range topic before now (Ok read) = KeepsAll range topic before now read.0 (kept_in read.1)
ReadsKept range topic before now (Err why) = (tops : List Top) × RefusalStands why before now tops

-- The source was read to its Data End, and its messages are played. Where it told its bytes, this is their reading.
pub record PlaysAll (range : Range) (topic : Option (List ℕ)) (before now : SourceState) (played : Replayed)
    : Type 0 where
  pub tops : List Top
  pub end : ℕ
  pub messages : List Seen
  pub halts : HaltsSo before now tops (at_end end)
  pub scan : Scan tops messages
  pub played_are : IsPlayed range topic messages played

-- or the reading was refused behind some records, for that reason
abbrev pub Plays : Range → Option (List ℕ) → SourceState → SourceState → Result Replayed ReadingRefused → Type 0
Plays range topic before now (Ok played) = PlaysAll range topic before now played
Plays range topic before now (Err why) = (tops : List Top) × RefusalStands why before now tops

-- The same, where the lines of the messages are made ready.
pub record PlaysAllLines (range : Range) (topic : Option (List ℕ)) (before now : SourceState) (text : List ℕ)
    : Type 0 where
  pub tops : List Top
  pub end : ℕ
  pub messages : List Seen
  pub halts : HaltsSo before now tops (at_end end)
  pub scan : Scan tops messages
  pub lines : AreLines range topic messages text

abbrev pub PlaysLines : Range → Option (List ℕ) → SourceState → SourceState → Result (List ℕ) ReadingRefused → Type 0
PlaysLines range topic before now (Ok text) = PlaysAllLines range topic before now text
PlaysLines range topic before now (Err why) = (tops : List Top) × RefusalStands why before now tops

-- And where their lines are made ready, with their log times.
abbrev pub AreTimed : Range → Option (List ℕ) → List Seen → List TimedLine → Type 0
AreTimed range topic messages lines =
    (shown : List Seen) × Replay range topic messages shown × (lines ≡ timed_lines shown)

pub record PlaysAllTimed (range : Range) (topic : Option (List ℕ)) (before now : SourceState) (lines : List TimedLine)
    : Type 0 where
  pub tops : List Top
  pub end : ℕ
  pub messages : List Seen
  pub halts : HaltsSo before now tops (at_end end)
  pub scan : Scan tops messages
  pub lines_are : AreTimed range topic messages lines

abbrev pub PlaysTimed : Range → Option (List ℕ) → SourceState → SourceState → Result (List TimedLine) ReadingRefused
    → Type 0
PlaysTimed range topic before now (Ok lines) = PlaysAllTimed range topic before now lines
PlaysTimed range topic before now (Err why) = (tops : List Top) × RefusalStands why before now tops
