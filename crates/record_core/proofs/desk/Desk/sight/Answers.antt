use Rattle.std.proofs.Common.{rules}
use Rattle.record_core.proofs.desk.Desk.sight.Goals as goal

pub returns-in-Some-Closed-default : goal.returns-in-Some-Closed-default
returns-in-Some-Closed-default c = search rules
