use Rattle.std.proofs.Common.{rules}
use Rattle.io_memory.proofs.memory_world.MemoryWorld.count_keeping.Goals as goal

pub returns-then-next_fails-clause-planned : goal.returns-then-next_fails-clause-planned
returns-then-next_fails-clause-planned c = search rules
