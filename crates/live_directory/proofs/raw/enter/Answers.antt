use Rattle.std.proofs.Common.{refl}
use Rattle.left_right.specs.Sides.{view}
use Rattle.live_directory.specs.Visits.{one_visit}
use Rattle.live_directory.proofs.raw.enter.Goals as goal

pub enter_as-requires : goal.enter_as-requires
enter_as-requires g c shelf views holds at = (one_visit (view c.args.reader.place) shelf, tt, refl)
