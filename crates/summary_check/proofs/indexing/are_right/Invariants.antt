use Rattle.std.proofs.Common.{◌<◌, ℕ, List}
use Rattle.mcap_model.specs.Places.{At}
use Rattle.mcap_model.specs.Tops.{Top}
use Rattle.mcap_model.specs.Whole.{V12}
use Rattle.index_check.specs.Chunks.{ChunksOf}
use Rattle.summary_read.specs.PartSteps.{cut_tops}
use Rattle.summary_check.specs.FullIndex.{EmptyRight}
use Rattle.summary_check.proofs.indexing.are_right.Given as goal

abbrev pub invariant-records : goal.invariant-records
invariant-records l = (all : List Top) → ChunksOf all l.chunks → ((k : ℕ) (t : Top) → At (cut_tops l.bytes l.cuts) k t → (n : ℕ) × V12 all n t)
    → (k : ℕ) (t : Top) → At (cut_tops l.bytes l.cuts) k t → k < l.i → EmptyRight all t
