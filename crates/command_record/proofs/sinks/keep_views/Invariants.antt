-- So far the last views were let go.
use Rattle.std.proofs.Common.{map}
use Rattle.command_record.proofs.KeptSinks.{ViewsSoFar}
use Rattle.command_record.proofs.sinks.keep_views.Given as goal

abbrev pub invariant-views : goal.invariant-views
invariant-views g l = record {
  gone : ViewsSoFar (g.W.World.state l.fn.world) (g.W.World.state l.world) (map (g.W.Live.View.LiveView.failures) l.initial.views.items) (map (g.W.Live.View.LiveView.failures) l.views.items);
}

abbrev pub decreases-views : goal.decreases-views
decreases-views g l = goal.left-views g l
