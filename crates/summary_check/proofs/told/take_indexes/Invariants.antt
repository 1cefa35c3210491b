use Rattle.std.proofs.Common.{◌+◌, ◌<◌, ℕ, List}
use Rattle.mcap_model.specs.Places.{At}
use Rattle.mcap_model.specs.Tops.{Top}
use Rattle.mcap_model.specs.Whole.{V12, V13}
use Rattle.summary_read.specs.PartSteps.{cut_tops}
use Rattle.summary_check.specs.Body.{StandFrom}
use Rattle.summary_check.specs.Told.{ToldOf}
use Rattle.summary_check.proofs.told.take_indexes.Given as goal

abbrev pub invariant-records : goal.invariant-records
invariant-records l = (all : List Top) (base : ℕ) → StandFrom all base (cut_tops l.bytes l.cuts) → ToldOf all base l.fn.chunks l.fn.attachments l.fn.metadata
    → ToldOf all (base + l.i) l.chunks l.attachments l.metadata × ((k : ℕ) (t : Top) → At (cut_tops l.bytes l.cuts) k t → k < l.i → V12 all (base + k) t × V13 all (base + k) t)
