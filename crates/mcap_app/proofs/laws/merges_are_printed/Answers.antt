use Rattle.mcap_app.proofs.Readable.{merges_are_printed}
use Rattle.mcap_app.proofs.laws.merges_are_printed.Goals as goal

pub returns : goal.returns
returns c = merges_are_printed
