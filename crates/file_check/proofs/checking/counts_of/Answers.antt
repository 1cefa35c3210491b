use Rattle.std.proofs.Common.{rules}
use Rattle.file_check.proofs.checking.counts_of.Goals as goal

pub returns : goal.returns
returns c = search rules
