use Rattle.recorder.proofs.LackingIds.{ids_had_run_out}
use Rattle.recorder.proofs.laws.ids_had_run_out.Goals as goal

pub returns : goal.returns
returns c = ids_had_run_out
