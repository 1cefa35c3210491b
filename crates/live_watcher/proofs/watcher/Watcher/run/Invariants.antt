use Rattle.std.proofs.Common.{◌≡◌, Some}
use Rattle.live_watcher.specs.declared.report.WatchEnd.{WatchEnd}
use Rattle.live_watcher.specs.Watching.{WatcherState}
use Rattle.live_watcher.specs.WatcherSteps.{WatchedSince}
use Rattle.live_watcher.proofs.watcher.Watcher.run.Given as goal

abbrev pub invariant-looks : goal.invariant-looks
invariant-looks g l =
    (goal.iterator-looks g).can_next l.iterator' × (goal.iterator-looks g).is_finite l.iterator'
    × ((first : WatcherState g.row.X.Denot) → WatchedSince g.X.Extent.tells first l.initial.self → WatchedSince g.X.Extent.tells first l.self)
    × ((why : WatchEnd) → l.initial.self.written.end ≡ Some why → l.self.written ≡ l.initial.self.written)
