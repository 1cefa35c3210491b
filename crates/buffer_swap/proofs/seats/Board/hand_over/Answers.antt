use Rattle.std.proofs.Common.{rules, refl}
use Rattle.buffer_swap.proofs.Keeps.{hands_as}
use Rattle.buffer_swap.proofs.seats.Board.hand_over.Goals as goal

pub fetch_add-requires : goal.fetch_add-requires
fetch_add-requires c = (c.requires.id, search rules, hands_as _ _ _ _ _ (record { word = refl; one = refl; alone = refl }) c.requires.desk.1 c.requires.desk.0 c.requires.drain c.requires.some)
