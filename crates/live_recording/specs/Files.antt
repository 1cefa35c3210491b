-- What watchers wrote of the file of what was recorded.
use Rattle.std.specs.Prelude.{◌≡◌, ◌⊎◌, ℕ, List, length, Bool, true, false, Option, Some, None}
use Rattle.rec_data.specs.declared.owned.Rec.{Rec}
use Rattle.mcap_model.specs.declared.ends.End.{End}
use Rattle.mcap_model.specs.declared.rules.Rule.{Rule}
use Rattle.mcap_model.specs.declared.options.FileOptions.{FileOptions}
use Rattle.mcap_model.specs.declared.replay.Range.{Range}
use Rattle.mcap_model.specs.File.{front_of}
use Rattle.mcap_model.specs.Kept.{reading_limits, Kept}
use Rattle.mcap_model.specs.Scan.{Seen, Scan, Replay}
use Rattle.mcap_model.specs.Tops.{Top}
use Rattle.time_player.specs.Text.{cat_text}
use Rattle.recorder.specs.declared.report.WriterReport.{WriterReport}
use Rattle.live_watcher.specs.declared.report.WatchEnd.{WatchEnd}
use Rattle.live_watcher.specs.declared.report.WatchEnd.TheVariants as watch_ends
use Rattle.live_watcher.specs.Text.{SealState, sealed_by, unsealed, FrontsText, WatchText, WatchPart}
use Rattle.live_watcher.specs.Watching.{Written, unwritten, written_by, IsQuiet, HasFailedSink, HasFailedView, TakesSuchText}
use Rattle.live_recording.specs.Watched.{Watch}

-- Up to its n-th block the file of this history has so many messages of the range, and these are their lines.
pub record FrontReplay (options : FileOptions) (range : Range) (history : List Rec) (n count : ℕ) (text : List ℕ)
    : Type 0 where
  pub tops : List Top
  pub kept : Kept reading_limits (front_of options history n) tops
  pub messages : List Seen
  pub scan : Scan tops messages
  pub shown : List Seen
  pub replay : Replay range None messages shown
  pub count_is : count ≡ length shown
  pub text_is : text ≡ cat_text shown

-- how the writer ended, where watchers were told of that
abbrev pub told_end : Bool → End → SealState
told_end true end = sealed_by end
told_end false end = unsealed

-- What a watcher that ended so has written, where the lines of the first n blocks are to be such, and it was told of the writer's
-- end or not: lines of fronts, and the end behind them; only these where its view failed, where it found a flaw, or out of memory;
-- and these with a first part of a line where its sink failed. It tells an end only where it was told of that, and that there is
-- none only where it wasn't.
abbrev pub WritesLines : (ℕ → ℕ → List ℕ → Type 0) → WriterReport → Bool → Written → Written → WatchEnd → Type 0
WritesLines lines w sealed before now watch_ends.Whole = IsQuiet before now × (sealed ≡ true)
    × TakesSuchText (WatchText lines w.blocks now.fronts (sealed_by w.end)) before.sink.took now.sink.took
WritesLines lines w sealed before now watch_ends.Unsealed = IsQuiet before now × (sealed ≡ false)
    × TakesSuchText (WatchText lines w.blocks now.fronts unsealed) before.sink.took now.sink.took
WritesLines lines w sealed before now (watch_ends.Fault faults) = (HasFailedSink before now faults
    × TakesSuchText (WatchPart lines w.blocks now.fronts (told_end sealed w.end)) before.sink.took now.sink.took)
    ⊎ (HasFailedView before now faults
    × TakesSuchText (FrontsText lines w.blocks now.fronts) before.sink.took now.sink.took)
WritesLines lines w sealed before now (watch_ends.Flaw rule offset) = IsQuiet before now
    × TakesSuchText (FrontsText lines w.blocks now.fronts) before.sink.took now.sink.took
WritesLines lines w sealed before now watch_ends.Memory = IsQuiet before now
    × TakesSuchText (FrontsText lines w.blocks now.fronts) before.sink.took now.sink.took

-- ---- of the file

abbrev pub FindsNoFlaw : WatchEnd → Type 0
FindsNoFlaw end = (rule : Rule) (offset : ℕ) → end ≡ watch_ends.Flaw rule offset → ⊥

-- by the failures of its view: the lines are those of the file of the history; one that got no view has written nothing
abbrev pub TellsWatchFile : FileOptions → Range → List Rec → WriterReport → Bool → Watch → Option ℕ → Type 0
TellsWatchFile options range history w sealed it (Some failures) = FindsNoFlaw it.report.end
    × WritesLines (FrontReplay options range history) w sealed (unwritten it.before 0)
    (written_by it.now failures it.report) it.report.end
TellsWatchFile options range history w sealed it None = it.now ≡ it.before

abbrev pub IsWatchedFile : FileOptions → Range → List Rec → WriterReport → Bool → Watch → Type 0
IsWatchedFile options range history w sealed it = TellsWatchFile options range history w sealed it it.view

-- ---- of the form alone

abbrev pub any_lines : ℕ → ℕ → List ℕ → Type 0
any_lines n count text = Unit {0}

-- the same, whatever numbers the lines have
abbrev pub TellsWatchForm : WriterReport → Bool → Watch → Option ℕ → Type 0
TellsWatchForm w sealed it (Some failures) =
    WritesLines any_lines w sealed (unwritten it.before 0) (written_by it.now failures it.report) it.report.end
TellsWatchForm w sealed it None = it.now ≡ it.before

abbrev pub HasWatchForm : WriterReport → Bool → Watch → Type 0
HasWatchForm w sealed it = TellsWatchForm w sealed it it.view
