use Rattle.std.proofs.Common.{map, take}
use Rattle.command_read.specs.Told.{AreNames}
use Rattle.command_read.proofs.names.names_of.Given as goal

abbrev pub invariant-indexes : goal.invariant-indexes
invariant-indexes l = AreNames (take l.i l.loaded.chunk_indexes) (map (λ n. n.now) l.names.keys)
