use Rattle.mcap_model.proofs.Histories.{numbered_ids_agree}
use Rattle.mcap_laws.proofs.numbered_ids_agree.Goals as goal

pub returns : goal.returns
returns c = numbered_ids_agree
