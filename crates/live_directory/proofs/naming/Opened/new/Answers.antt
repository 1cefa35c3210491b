use Rattle.std.proofs.Common.{refl}
use Rattle.live_directory.proofs.Empty.{no_history}
use Rattle.live_directory.proofs.naming.Opened.new.Goals as goal

pub open-seen-requires : goal.open-seen-requires
open-seen-requires g c = (record { words = refl; legal = no_history g.X.Extent.tells }, (λ log. tt), c.alone.ensures.1)
