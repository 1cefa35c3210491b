use Rattle.std.proofs.Common.{rules}
use Rattle.io_memory.proofs.memory_world.MemoryWorld.copy_under.Goals as goal

pub returns-clause-reads : goal.returns-clause-reads
returns-clause-reads c = search rules
