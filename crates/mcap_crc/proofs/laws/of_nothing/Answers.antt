use Rattle.std.proofs.Common.{refl}
use Rattle.mcap_crc.specs.Remainder.{remainder}
use Rattle.mcap_crc.proofs.laws.of_nothing.Goals as goal

pub returns : goal.returns
unfolding remainder
returns c = refl
