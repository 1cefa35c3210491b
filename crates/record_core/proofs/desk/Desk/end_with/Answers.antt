use Rattle.std.proofs.Common.{rules}
use Rattle.record_core.proofs.desk.Desk.end_with.Goals as goal

pub returns-clause-answer : goal.returns-clause-answer
returns-clause-answer c = search rules
