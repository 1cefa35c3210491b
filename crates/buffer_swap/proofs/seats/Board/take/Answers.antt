use Rattle.std.proofs.Common.{rules, refl}
use Rattle.buffer_swap.proofs.Keeps.{takes_turn}
use Rattle.buffer_swap.proofs.seats.Board.take.Goals as goal

pub compare_exchange-requires : goal.compare_exchange-requires
compare_exchange-requires c = (c.requires.id, search rules, takes_turn _ _ _ _ _ _ (record { word = refl; free = refl; taken = refl }) c.requires.idle)
