use Rattle.mcap_model.proofs.Cutting.{sizes_ripen}
use Rattle.mcap_laws.proofs.sizes_ripen.Goals as goal

pub returns : goal.returns
returns c = sizes_ripen
