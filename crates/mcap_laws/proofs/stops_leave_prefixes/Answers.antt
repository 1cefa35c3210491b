use Rattle.mcap_model.proofs.Pieces.{stops_leave_prefixes}
use Rattle.mcap_laws.proofs.stops_leave_prefixes.Goals as goal

pub returns : goal.returns
returns c = stops_leave_prefixes
