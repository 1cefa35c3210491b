use Rattle.mcap_model.proofs.Rising.{replays_are_one}
use Rattle.mcap_laws.proofs.replays_are_one.Goals as goal

pub returns : goal.returns
returns c = replays_are_one
