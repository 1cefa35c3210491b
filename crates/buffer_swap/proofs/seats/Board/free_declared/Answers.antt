use Rattle.std.proofs.Common.{rules}
use Rattle.buffer_swap.proofs.seats.Board.free_declared.Goals as goal

pub free_lacking-requires-in-Err-TooManyChannels-clause-lacks : goal.free_lacking-requires-in-Err-TooManyChannels-clause-lacks
free_lacking-requires-in-Err-TooManyChannels-clause-lacks c = c.requires.no_channels (search rules)
