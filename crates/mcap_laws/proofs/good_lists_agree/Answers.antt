use Rattle.mcap_model.proofs.Flat.{good_lists_agree}
use Rattle.mcap_laws.proofs.good_lists_agree.Goals as goal

pub returns : goal.returns
returns c = good_lists_agree
