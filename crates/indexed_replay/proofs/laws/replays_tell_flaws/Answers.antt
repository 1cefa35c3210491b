use Rattle.indexed_replay.proofs.Flawing.{replays_tell}
use Rattle.indexed_replay.proofs.laws.replays_tell_flaws.Goals as goal

pub returns : goal.returns
returns c = replays_tell
