use Rattle.std.proofs.Common.{rules}
use Rattle.file_check.proofs.checking.tell.Goals as goal

pub returns-in-Ok-true-clause-told : goal.returns-in-Ok-true-clause-told
returns-in-Ok-true-clause-told c = search rules
