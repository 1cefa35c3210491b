use Rattle.std.proofs.Common.{rules}
use Rattle.buffer_swap.proofs.Keeps.{frees_turn}
use Rattle.buffer_swap.proofs.seats.Board.free.Goals as goal

pub store-requires : goal.store-requires
store-requires c = (c.requires.id, search rules, frees_turn _ _ _ c.requires.desk)
