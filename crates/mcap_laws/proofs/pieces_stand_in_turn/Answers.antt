use Rattle.mcap_model.proofs.Cutting.{pieces_stand_in_turn}
use Rattle.mcap_laws.proofs.pieces_stand_in_turn.Goals as goal

pub returns : goal.returns
returns c = pieces_stand_in_turn
