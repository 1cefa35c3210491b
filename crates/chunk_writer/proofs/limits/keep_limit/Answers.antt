use Rattle.std.proofs.Common.{rules}
use Rattle.chunk_writer.proofs.limits.keep_limit.Goals as goal

pub returns : goal.returns
returns c = search rules
