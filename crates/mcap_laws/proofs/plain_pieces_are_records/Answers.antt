use Rattle.mcap_laws.proofs.InTurn.{plain_pieces_are_records}
use Rattle.mcap_laws.proofs.plain_pieces_are_records.Goals as goal

pub returns : goal.returns
returns c = plain_pieces_are_records
