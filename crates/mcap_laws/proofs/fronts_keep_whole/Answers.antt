use Rattle.mcap_model.proofs.Fronts.{fronts_keep_whole}
use Rattle.mcap_laws.proofs.fronts_keep_whole.Goals as goal

pub returns : goal.returns
returns c = fronts_keep_whole
