use Rattle.std.proofs.Common.{rules}
use Rattle.time_player.proofs.hex.digit.Goals as goal

pub returns : goal.returns
returns c = search rules
