use Rattle.std.proofs.Common.{rules}
use Rattle.indexed_replay.proofs.gathering.meets.Goals as goal

pub returns-then-first-index : goal.returns-then-first-index
returns-then-first-index c = search rules
