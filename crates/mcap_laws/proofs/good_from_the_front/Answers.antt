use Rattle.mcap_model.proofs.Readings.{good_from_the_front}
use Rattle.mcap_laws.proofs.good_from_the_front.Goals as goal

pub returns : goal.returns
returns c = good_from_the_front
