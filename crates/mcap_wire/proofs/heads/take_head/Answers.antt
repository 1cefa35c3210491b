use Rattle.std.proofs.Common.{rules}
use Rattle.mcap_wire.proofs.heads.take_head.Goals as goal

pub returns : goal.returns
returns c = search rules
