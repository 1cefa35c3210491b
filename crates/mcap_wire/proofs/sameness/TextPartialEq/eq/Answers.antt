use Rattle.std.proofs.Common.{rules}
use Rattle.mcap_wire.proofs.sameness.TextPartialEq.eq.Goals as goal

pub returns : goal.returns
returns c = search rules
