use Rattle.std.proofs.Common.{rules}
use Rattle.index_check.proofs.extras.is_of_attachment.Goals as goal

pub returns-then-is : goal.returns-then-is
returns-then-is c = search rules
