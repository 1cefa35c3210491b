use Rattle.std.proofs.Common.{arith, rules}
use Rattle.std.proofs.lemmas.Grind.{common_steps}
use Rattle.io_files.proofs.ahead.ReadAhead.give.Goals as goal

pub returns-clause-from : goal.returns-clause-from
returns-clause-from g c = search rules

pub returns-clause-out : goal.returns-clause-out
returns-clause-out g c = grind (arith, common_steps)
