use Rattle.std.proofs.Common.{rules}
use Rattle.io_files.proofs.files.FileWorldWorld.keep_live.Goals as goal

pub returns-in-Ok-clause-written : goal.returns-in-Ok-clause-written
returns-in-Ok-clause-written g c = search rules

pub returns-in-Ok-clause-broken : goal.returns-in-Ok-clause-broken
returns-in-Ok-clause-broken g c = search rules
