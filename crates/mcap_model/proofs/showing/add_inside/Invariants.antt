use Rattle.std.proofs.Common.{length}
use Rattle.mcap_model.specs.Walk.{walk_at, walk_rest}
use Rattle.mcap_model.proofs.ShownMessages.{AddsSoFar}
use Rattle.mcap_model.proofs.showing.add_inside.Given as goal

abbrev pub decreases-records : goal.decreases-records
decreases-records l = length (walk_rest l.walk)

abbrev pub invariant-records : goal.invariant-records
invariant-records l = AddsSoFar l.records l.offset (walk_at l.walk) (walk_rest l.walk) l.fn.shown.items l.shown.items
