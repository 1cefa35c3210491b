use Rattle.std.proofs.Common.{◌<◌, ℕ, None}
use Rattle.mcap_model.specs.Places.{At}
use Rattle.mcap_model.specs.Tops.{Top}
use Rattle.summary_read.specs.PartSteps.{cut_tops}
use Rattle.summary_read.specs.Steps.{Judged}
use Rattle.summary_check.proofs.kinds.find_broken.Given as goal

abbrev pub invariant-records : goal.invariant-records
invariant-records l = (k : ℕ) (t : Top) → At (cut_tops l.bytes l.cuts) k t → k < l.i → Judged t None
