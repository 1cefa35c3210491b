use Rattle.std.proofs.Common.{◌+◌, ◌<◌, ℕ, List, length}
use Rattle.mcap_model.specs.Places.{At}
use Rattle.mcap_model.specs.Tops.{Top}
use Rattle.mcap_model.specs.Whole.{V15}
use Rattle.summary_read.specs.PartSteps.{cut_tops}
use Rattle.summary_check.specs.Laid.{all_of, Laid}
use Rattle.summary_check.specs.Offsets.{AreNamedOpcodes}
use Rattle.summary_check.proofs.offsets.find_misnamed.Given as goal

abbrev pub invariant-records : goal.invariant-records
invariant-records l = (tops : List Top) (foot : Top) → Laid tops l.bytes l.cuts l.start
    → AreNamedOpcodes (all_of tops (cut_tops l.bytes l.cuts) foot) (length tops + l.i) l.names
    × ((k : ℕ) (t : Top) → At (cut_tops l.bytes l.cuts) k t → k < l.i → V15 (all_of tops (cut_tops l.bytes l.cuts) foot) (length tops + k) t)
