use Rattle.std.proofs.Common.{◌<◌, ℕ, List}
use Rattle.std.specs.Prelude.{take}
use Rattle.mcap_model.specs.Places.{At}
use Rattle.mcap_model.specs.Tops.{Top}
use Rattle.summary_read.specs.PartSteps.{cut_tops}
use Rattle.index_check.specs.Order.{OrderOf}
use Rattle.summary_check.specs.Body.{known, KnownInPlace}
use Rattle.summary_check.proofs.ordering.find_misplaced.Given as goal

abbrev pub invariant-records : goal.invariant-records
invariant-records l = (bytes : List ℕ) → OrderOf (known (take l.i (cut_tops bytes l.cuts))) l.order × ((k : ℕ) (t : Top) → At (cut_tops bytes l.cuts) k t → k < l.i → KnownInPlace (cut_tops bytes l.cuts) k t)
