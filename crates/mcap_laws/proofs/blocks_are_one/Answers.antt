use Rattle.mcap_model.proofs.Cutting.{blocks_are_one}
use Rattle.mcap_laws.proofs.blocks_are_one.Goals as goal

pub returns : goal.returns
returns c = blocks_are_one
