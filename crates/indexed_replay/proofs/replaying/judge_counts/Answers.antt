use Rattle.std.proofs.Common.{rules}
use Rattle.indexed_replay.proofs.replaying.judge_counts.Goals as goal

pub returns : goal.returns
returns c = search rules
