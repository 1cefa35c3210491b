use Rattle.mcap_laws.proofs.Ranges.{small_blocks_fit}
use Rattle.mcap_laws.proofs.small_blocks_fit.Goals as goal

pub returns : goal.returns
returns c = small_blocks_fit
