use Rattle.record_core.specs.declared.answers.CallRefused.TheVariants.{Memory}
use Rattle.buffer_swap.proofs.seats.Board.free_declared.Given as goal

abbrev pub ghosts-free_named : goal.ghosts-free_named
ghosts-free_named a = record { name = (a._channel, a._def.now); lacking = (a._def.now, Memory) }

abbrev pub ghosts-free_lacking : goal.ghosts-free_lacking
ghosts-free_lacking a = record { name = (0, a._def.now); lacking = (a._def.now, a._why) }
