use Rattle.std.proofs.Common.{rules}
use Rattle.mcap_model.proofs.chunks.has_crc.Goals as goal

pub returns-else-crc-eq0 : goal.returns-else-crc-eq0
returns-else-crc-eq0 c = search rules
