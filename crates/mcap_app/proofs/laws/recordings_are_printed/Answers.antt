use Rattle.mcap_app.proofs.RoundTrip.{recordings_are_printed}
use Rattle.mcap_app.proofs.laws.recordings_are_printed.Goals as goal

pub returns : goal.returns
returns c = recordings_are_printed
