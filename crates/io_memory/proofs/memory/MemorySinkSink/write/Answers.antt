use Rattle.std.proofs.Common.{rules}
use Rattle.io_memory.proofs.memory.MemorySinkSink.write.Goals as goal

pub returns-then-is_some-clause-planned : goal.returns-then-is_some-clause-planned
returns-then-is_some-clause-planned c = search rules
