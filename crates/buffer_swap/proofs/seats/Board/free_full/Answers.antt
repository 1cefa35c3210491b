use Rattle.std.proofs.Common.{rules}
use Rattle.buffer_swap.proofs.Keeps.{frees_full}
use Rattle.buffer_swap.proofs.seats.Board.free_full.Goals as goal

pub store-requires : goal.store-requires
store-requires c = (c.requires.id, search rules, frees_full _ _ _ c.requires.desk)
