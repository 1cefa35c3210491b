use Rattle.std.proofs.Common.{ap, subst}
use Rattle.live_directory.specs.ReaderSteps.{Learns}
use Rattle.live_watcher.specs.Watching.{WatcherState}
use Rattle.live_watcher.proofs.Steps.{learnt}
use Rattle.live_watcher.proofs.watcher.Watcher.learn.Goals as goal

pub returns-clause-since : goal.returns-clause-since
returns-clause-since g c = λ first w.
    learnt g.X.Extent.tells first c.args.self.now _ w (ap (λ (s : WatcherState g.row.X.Denot). s.range) c.self.view_is) (ap (λ (s : WatcherState g.row.X.Denot). s.written) c.self.view_is)
    (subst (λ (s : WatcherState g.row.X.Denot). Learns s.reader c.learn.new.self) c.self.view_is c.learn.ensures.learns)
