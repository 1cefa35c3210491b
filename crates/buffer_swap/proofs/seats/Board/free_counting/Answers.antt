use Rattle.std.proofs.Common.{rules}
use Rattle.buffer_swap.proofs.Keeps.{frees_as_counted}
use Rattle.buffer_swap.proofs.seats.Board.free_counting.Goals as goal

pub store-requires : goal.store-requires
store-requires c = (c.requires.id, search rules, frees_as_counted _ _ _ _ c.requires.counts.0 c.requires.desk.1 c.requires.desk.0 c.requires.counts.1 c.requires.publisher)
