use Rattle.mcap_model.proofs.Pieces.{pieces_make_files}
use Rattle.mcap_laws.proofs.pieces_make_files.Goals as goal

pub returns : goal.returns
returns c = pieces_make_files
