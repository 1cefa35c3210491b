use Rattle.std.proofs.Common.{rules}
use Rattle.id_table.proofs.table.given.Goals as goal

pub returns-in-Some : goal.returns-in-Some
returns-in-Some c = search rules

pub returns-then-count-ge-MAX_IDS : goal.returns-then-count-ge-MAX_IDS
returns-then-count-ge-MAX_IDS c = search rules
