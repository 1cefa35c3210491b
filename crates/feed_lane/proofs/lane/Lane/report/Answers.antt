use Rattle.std.proofs.Common.{refl}
use Rattle.feed_lane.proofs.lane.Lane.report.Goals as goal

pub returns : goal.returns
returns c = refl
