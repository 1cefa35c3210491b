use Rattle.mcap_laws.proofs.Premises.{good_histories_agree}
use Rattle.mcap_laws.proofs.good_histories_agree.Goals as goal

pub returns : goal.returns
returns c = good_histories_agree
