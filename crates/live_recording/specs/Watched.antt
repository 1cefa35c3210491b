-- What came of a recording that is watched.
use Rattle.std.specs.Prelude.{◌≡◌, ℕ, ◌≤◌, List, [], ◌∷◌, Option, Some, None}
use Rattle.mcap_io.specs.Outside.{LiveState, SinkState, RisesOnce}
use Rattle.live_watcher.specs.declared.report.WatchReport.{WatchReport}
use Rattle.live_watcher.specs.declared.report.WatchEnd.TheVariants as watch_ends

-- ---- a watcher

-- a watcher whose view was refused has nothing to report but the count of the store
pub record IsUnviewed (faults : ℕ) (report : WatchReport) : Type 0 where
  pub fronts : report.fronts.items ≡ []
  pub end_is : report.end ≡ watch_ends.Fault faults

-- What is seen of a watcher of a recording: its sink as it was handed in and as it came back, how often its view has failed,
-- if it got one, and its report.
pub record Watch : Type 0 where
  pub before : SinkState
  pub now : SinkState
  pub view : Option ℕ
  pub report : WatchReport

-- the store was asked for a view: it gave one; or it failed, and its count is in the report
abbrev pub AsksView : LiveState → LiveState → Option ℕ → WatchReport → Type 0
AsksView before now (Some failures) report = now.faults ≡ before.faults
AsksView before now None report = RisesOnce before.faults now.faults × IsUnviewed now.faults report

-- The store was asked for a view for each of these watchers, in their order. What it holds stays.
abbrev pub AsksViews : LiveState → List Watch → LiveState → Type 0
AsksViews before [] now = now ≡ before
AsksViews before (w ∷ more) now = (mid : LiveState) × (mid.held ≡ before.held) × (mid.waiting ≤ before.waiting)
    × AsksView before mid w.view w.report × AsksViews mid more now
