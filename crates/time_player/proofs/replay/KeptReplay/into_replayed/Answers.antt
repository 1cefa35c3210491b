use Rattle.std.proofs.Common.{rules}
use Rattle.time_player.proofs.replay.KeptReplay.into_replayed.Goals as goal

pub returns-in-Ok : goal.returns-in-Ok
returns-in-Ok c = search rules
