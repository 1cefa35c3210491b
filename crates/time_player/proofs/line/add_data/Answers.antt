use Rattle.std.proofs.Common.{rules}
use Rattle.time_player.proofs.line.add_data.Goals as goal

pub returns-then-is_empty-clause-items : goal.returns-then-is_empty-clause-items
returns-then-is_empty-clause-items c = search rules
