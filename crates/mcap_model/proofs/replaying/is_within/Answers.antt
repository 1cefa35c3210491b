use Rattle.std.proofs.Common.{rules}
use Rattle.mcap_model.proofs.replaying.is_within.Goals as goal

pub returns-then-range-time : goal.returns-then-range-time
returns-then-range-time c = search rules
