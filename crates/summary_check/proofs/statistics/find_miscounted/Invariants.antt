use Rattle.std.proofs.Common.{◌+◌, ◌<◌, ℕ, List}
use Rattle.mcap_model.specs.Places.{At}
use Rattle.mcap_model.specs.Tops.{Top}
use Rattle.mcap_model.specs.Whole.{V14}
use Rattle.summary_read.specs.PartSteps.{cut_tops}
use Rattle.index_check.specs.Tally.{TallyOf}
use Rattle.summary_check.proofs.statistics.find_miscounted.Given as goal

abbrev pub invariant-records : goal.invariant-records
invariant-records l = (all section : List Top) (base : ℕ) → TallyOf all section l.tally → (k : ℕ) (t : Top) → At (cut_tops l.bytes l.cuts) k t → k < l.i → V14 all (base + k) t
