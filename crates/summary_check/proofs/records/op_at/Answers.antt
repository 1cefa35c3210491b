use Rattle.mcap_model.proofs.Places.{at_read}
use Rattle.summary_check.proofs.Onward.{op_there}
use Rattle.summary_check.proofs.records.op_at.Goals as goal

pub returns : goal.returns
returns c = λ bytes. op_there bytes c.args.cuts.now c.args.i _ (at_read c.args.cuts.now c.args.i _ c.requires)
