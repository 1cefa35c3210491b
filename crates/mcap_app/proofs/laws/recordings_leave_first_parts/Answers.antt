use Rattle.mcap_app.proofs.FirstParts.{recordings_leave_first_parts}
use Rattle.mcap_app.proofs.laws.recordings_leave_first_parts.Goals as goal

pub returns : goal.returns
returns c = recordings_leave_first_parts
