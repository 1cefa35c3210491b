use Rattle.mcap_laws.proofs.InTurn.{pieces_are_one}
use Rattle.mcap_laws.proofs.pieces_are_one.Goals as goal

pub returns : goal.returns
returns c = pieces_are_one
