use Rattle.std.proofs.Common.{refl}
use Rattle.mcap_model.proofs.Places.{at_read}
use Rattle.summary_check.proofs.records.from_at.Goals as goal

pub returns : goal.returns
returns c = (_, at_read c.args.cuts.now c.args.i _ c.requires, refl)
