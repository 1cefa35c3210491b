use Rattle.std.proofs.Common.{rules, refl}
use Rattle.buffer_swap.proofs.Keeps.{stops_as}
use Rattle.buffer_swap.proofs.seats.Board.stop.Goals as goal

pub fetch_add-requires : goal.fetch_add-requires
fetch_add-requires c = (c.requires.id, search rules, stops_as _ _ _ c.args._stop _ _ (record { word = refl; one = refl; alone = refl }) c.requires.desk.1 c.requires.desk.0 c.requires.unended c.requires.drain)
