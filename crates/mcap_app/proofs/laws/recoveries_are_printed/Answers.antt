use Rattle.mcap_app.proofs.Readable.{recoveries_are_printed}
use Rattle.mcap_app.proofs.laws.recoveries_are_printed.Goals as goal

pub returns : goal.returns
returns c = recoveries_are_printed c.repairs_keep_rules.ensures
