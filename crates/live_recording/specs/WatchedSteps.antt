-- The steps of a recording that is watched, and what holds of it all.
use Rattle.std.specs.Prelude.{◌≡◌, ℕ, List, true, Option, Some, ◌⊎◌, ◌≤◌, [], ◌∷◌, length, map, Bool, false, None, Result, Ok, Err}
use mathlib.Core.List.{IsPrefix}
use Rattle.mcap_model.specs.declared.replay.Range.{Range}
use Rattle.mcap_model.specs.Places.{Each}
use Rattle.mcap_model.specs.declared.options.RecordOptions.{RecordOptions}
use Rattle.recorder.specs.declared.report.Report.{Report}
use Rattle.recorder.specs.Recorded.{AreReadable, Sides, sides, Recorded}
use Rattle.live_recording.specs.Files.{IsWatchedFile, HasWatchForm}
use Rattle.live_recording.specs.Publishing.{Board, GivesTo, KnowsLack, SealsBoard, empty_board}
use Rattle.std.specs.List.{AllZip, concat}
use Rattle.rec_data.specs.declared.owned.Rec.{Rec}
use Rattle.mcap_io.specs.Outside.{LiveState, SinkState, RisesOnce}
use Rattle.mcap_model.specs.declared.ends.End.{End}
use Rattle.mcap_model.specs.declared.ends.End.TheVariants as ends
use Rattle.mcap_model.specs.declared.options.FileOptions.{FileOptions}
use Rattle.mcap_model.specs.Blocks.{Piece, pieces_of}
use Rattle.mcap_model.specs.File.{front, blocks_from}
use Rattle.live_entry.specs.declared.entry.Entry.{Entry}
use Rattle.live_entry.specs.Following.{Stored, IsStored}
use Rattle.live_directory.specs.declared.front.Added.{Added}
use Rattle.live_directory.specs.Published.{entries_of, end_of, at_most_one}
use Rattle.live_directory.specs.Reading.{unread}
use Rattle.live_directory.specs.Writing.{DirectoryState}
use Rattle.recorder.specs.declared.report.WriterReport.{WriterReport}
use Rattle.recorder.specs.Entries.{IsEntryThere, AreFirst}
use Rattle.live_watcher.specs.declared.report.WatchReport.{WatchReport}
use Rattle.live_watcher.specs.Text.{SealState, sealed_by, unsealed}
use Rattle.live_watcher.specs.Watching.{Written, WatcherState, new_watcher, written_by, Watches}
use Rattle.live_watcher.specs.WatcherSteps.{WatchedSince}
use Rattle.live_recording.specs.declared.seats.Unviewed.{Unviewed}
use Rattle.live_recording.specs.Watched.{IsUnviewed, Watch, AsksViews}

-- ---- what was told

-- The entries are those of the first blocks of the history, as many as the writer reports: where it closed, of all.
pub record AreBlockEntries {X : Type 0} (tells : X → Option (List ℕ)) (options : FileOptions) (before : LiveState)
    (history : List Rec) (w : WriterReport) (entries : List (Entry X)) : Type 0 where
  pub pieces : List Piece
  pub first : AreFirst options history pieces
  pub each : AllZip (IsEntryThere tells) (blocks_from (length (front options.profile)) pieces) entries
  -- where the store told what it held before, each extent tells its block
  pub tell : (held : List ℕ) → before.held ≡ Some held → (stored : List Stored) × AllZip (IsStored tells) entries stored
  pub many : length entries ≡ w.blocks
  pub all : w.end ≡ ends.Closed → pieces ≡ pieces_of options.chunk options.span history

-- What a directory showed in the end: first blocks of the history; and all, with how the writer ended, where it was sealed.
pub record ShowsBlocks {X : Type 0} (tells : X → Option (List ℕ)) (options : FileOptions) (before : LiveState)
    (history : List Rec) (w : WriterReport) (note : List (Added X)) : Type 0 where
  pub given : List (Entry X)
  pub blocks_are : AreBlockEntries tells options before history w given
  pub first : IsPrefix (entries_of note) given
  pub sealed : (end : End) → end_of note ≡ Some end → (end ≡ w.end) × (entries_of note ≡ given)

-- A directory without blocks was given these entries, and then it was tried to seal it with that end. It has none only with the
-- cause: entries were lost behind others that were pending, since memory lacked for these; or memory lacked for the seal.
pub record TriedToSeal {X : Type 0} (given : List (Entry X)) (end : End) (note : List (Added X)) (now : DirectoryState X)
    : Type 0 where
  pub board : Board X
  pub gives : GivesTo empty_board board given
  pub known : KnowsLack board
  pub seals : SealsBoard board now end note
  pub lacked : end_of note ≡ None → now.short ≡ true

-- What a recording beside a directory came to, what the directory showed of it in the end, and how it is now.
pub record RecordedBeside {X : Type 0} (tells : X → Option (List ℕ)) (options : RecordOptions) (before now : Sides)
    (r : Report) (note : List (Added X)) (directory : DirectoryState X) : Type 0 where
  pub recorded : Recorded options before now r
  pub shows : ShowsBlocks tells options.file before.live recorded.history r.writer note
  pub tried : TriedToSeal shows.given r.writer.end note directory

-- the same of some directory, for clauses that can't name the one that was lent
abbrev pub RecordedOver : {X : Type 0} → (X → Option (List ℕ)) → RecordOptions → Sides → Sides → Report → List (Added X)
    → Type 0
RecordedOver {X} tells options before now r note =
    (directory : DirectoryState X) × RecordedBeside tells options before now r note directory

-- ---- a watcher

-- how a directory is seen to end that shows this: with the end of its seal, or unsealed
abbrev pub seal_by : Option End → SealState
seal_by None = unsealed
seal_by (Some end) = sealed_by end

abbrev pub seal_of : {X : Type 0} → List (Added X) → SealState
seal_of note = seal_by (end_of note)

-- Since it was new, a watcher has written this of the blocks that the directory showed in the end.
abbrev pub WatcherWrites : {X : Type 0} → (X → Option (List ℕ)) → List (Added X) → WatcherState X → Written → Type 0
WatcherWrites tells note first written =
    Watches tells first.range (entries_of note) (seal_of note) first.written written

-- it wrote all that it had to; or it got no view, and its sink is as it was
abbrev pub WatchTells : {X : Type 0} → (X → Option (List ℕ)) → Range → List (Added X) → SinkState → SinkState
    → Option ℕ → WatchReport → Type 0
WatchTells tells range note before now (Some failures) report =
    WatcherWrites tells note (new_watcher unread range before 0) (written_by now failures report)
WatchTells tells range note before now None report = now ≡ before

abbrev pub IsWatched : {X : Type 0} → (X → Option (List ℕ)) → Range → List (Added X) → Watch → Type 0
IsWatched tells range note w = WatchTells tells range note w.before w.now w.view w.report

-- These are the watchers of a recording: their sinks, the failures of the views that came back, and their reports, each in
-- the same order.
pub record AreWatches (watches : List Watch) (before now : List SinkState) (views : List ℕ) (reports : List WatchReport)
    : Type 0 where
  pub before_are : before ≡ map (λ (w : Watch). w.before) watches
  pub now_are : now ≡ map (λ (w : Watch). w.now) watches
  pub views_are : views ≡ concat (map (λ (w : Watch). at_most_one w.view) watches)
  pub reports_are : reports ≡ map (λ (w : Watch). w.report) watches

-- ---- the whole

-- What is seen of a recording beside its feeds, its store and its report: the sinks as they were handed in and as they came
-- back, the failures of the views that were made, and the reports on the watchers.
pub record SeenWatching : Type 0 where
  pub handed : List SinkState
  pub sinks : List SinkState
  pub views : List ℕ
  pub reports : List WatchReport
  pub sealed : Bool

abbrev pub seen_watching : List SinkState → List SinkState → List ℕ → List WatchReport → Bool → SeenWatching
seen_watching handed sinks views reports sealed =
    record { handed = handed; sinks = sinks; views = views; reports = reports; sealed = sealed }

-- What a recording with watchers came to: the store was asked for their views first, and what the recording did is said from
-- there on; each watcher wrote of what the directory showed in the end. It is told as unsealed only where there are watchers and
-- no seal, for want of memory. What a watcher wrote has the form of a watch file, whatever is told of bytes.
pub record RecordedWatched {X : Type 0} (tells : X → Option (List ℕ)) (options : RecordOptions) (range : Range)
    (before now : Sides) (r : Report) (told : SeenWatching) : Type 0 where
  pub watches : List Watch
  pub are : AreWatches watches told.handed told.sinks told.views told.reports
  pub viewed : LiveState
  pub asked : AsksViews before.live watches viewed
  pub note : List (Added X)
  pub recorded : Recorded options (sides before.sources viewed) now r
  pub shows : (told.handed ≡ [] → ⊥) → ShowsBlocks tells options.file viewed recorded.history r.writer note
  -- as it was when it was closed
  pub directory : DirectoryState X
  pub tried : (some : told.handed ≡ [] → ⊥) → TriedToSeal (shows some).given r.writer.end note directory
  pub each : Each (IsWatched tells range note) watches
  pub forms : Each (HasWatchForm r.writer told.sealed) watches
  pub sealed : told.sealed ≡ true → (told.handed ≡ []) ⊎ (end_of note ≡ Some r.writer.end)
  pub unsealed : told.sealed ≡ false → (told.handed ≡ [] → ⊥) × (end_of note ≡ None)

-- ---- inside

-- how often a view has failed, where there is one
abbrev pub failures_in : {V : Type 0} → (V → ℕ) → Option V → Option ℕ
failures_in failures None = None
failures_in failures (Some view) = Some (failures view)

-- what is seen of what is left of a watcher
pub record LeftState : Type 0 where
  pub sink : SinkState
  pub view : Option ℕ
  pub report : WatchReport

-- a watcher has run for a while; a sink without one stays
abbrev pub SeatRuns : {X K : Type 0} → (X → Option (List ℕ)) → Result (WatcherState X) (Unviewed K)
    → Result (WatcherState X) (Unviewed K) → Type 0
SeatRuns {X} tells (Ok before) (Ok now) =
    (first : WatcherState X) → WatchedSince tells first before → WatchedSince tells first now
SeatRuns tells (Ok before) (Err none) = ⊥
SeatRuns tells (Err none) now = now ≡ Err none

-- a watcher has finished, and this is what is left of it; of a sink without one the sink
abbrev pub SeatEnds : {X K : Type 0} → (X → Option (List ℕ)) → (K → SinkState) → List (Added X)
    → Result (WatcherState X) (Unviewed K) → SinkState → Option ℕ → WatchReport → Type 0
SeatEnds {X} tells state told (Ok last) now (Some failures) report = (first : WatcherState X)
    → WatchedSince tells first last → WatcherWrites tells told first (written_by now failures report)
SeatEnds tells state told (Ok last) now None report = ⊥
SeatEnds tells state told (Err none) now (Some failures) report = ⊥
SeatEnds tells state told (Err none) now None report = (now ≡ state none.sink) × IsUnviewed none.faults report

-- what a store was asked for this sink: a new watcher that reads by the view, or the count of the store
abbrev pub SeatMade : {X K : Type 0} → (K → SinkState) → Range → LiveState → LiveState → K
    → Result (WatcherState X) (Unviewed K) → Type 0
SeatMade state range before now sink (Ok watcher) =
    (now.faults ≡ before.faults) × (watcher ≡ new_watcher unread range (state sink) 0)
SeatMade state range before now sink (Err none) =
    RisesOnce before.faults now.faults × (none.faults ≡ now.faults) × (none.sink ≡ sink)

abbrev pub SeatsMade : {X K : Type 0} → (K → SinkState) → Range → LiveState → List K → LiveState
    → List (Result (WatcherState X) (Unviewed K)) → Type 0
SeatsMade state range before [] now [] = now ≡ before
SeatsMade state range before [] now (seat ∷ seats) = ⊥
SeatsMade state range before (sink ∷ sinks) now [] = ⊥
SeatsMade state range before (sink ∷ sinks) now (seat ∷ seats) = (mid : LiveState) × (mid.held ≡ before.held)
    × (mid.waiting ≤ before.waiting) × SeatMade state range before mid sink seat
    × SeatsMade state range mid sinks now seats

-- all watchers have finished: this is left of them, in their order
pub record SeatsEnd {X K : Type 0} (tells : X → Option (List ℕ)) (state : K → SinkState)
    (told : List (Added X)) (seats : List (Result (WatcherState X) (Unviewed K))) (sinks : List SinkState)
    (views : List ℕ) (reports : List WatchReport) : Type 0 where
  pub left : List LeftState
  pub each : AllZip
      (λ (seat : Result (WatcherState X) (Unviewed K)) (it : LeftState). SeatEnds tells state told seat it.sink it.view it.report)
      seats left
  pub sinks_are : sinks ≡ map (λ (it : LeftState). it.sink) left
  pub views_are : views ≡ concat (map (λ (it : LeftState). at_most_one it.view) left)
  pub reports_are : reports ≡ map (λ (it : LeftState). it.report) left

-- ---- the files of watchers

-- Where a recording in chunks had a store that told what it held before, each watcher wrote of the file of the history: the line of
-- a front is that of the file up to that block, and the lines of the end are those of all its blocks.
abbrev pub WatchFilesAreTold : {X : Type 0} → (X → Option (List ℕ)) → Type 0
WatchFilesAreTold {X} tells = (options : RecordOptions) (range : Range) (before now : Sides) (r : Report)
    (told : SeenWatching) → (it : RecordedWatched tells options range before now r told) → AreReadable options.file
    → (size : ℕ) → options.file.chunk ≡ Some size → (held : List ℕ) → before.live.held ≡ Some held
    → Each (IsWatchedFile options.file range it.recorded.history r.writer told.sealed) it.watches
