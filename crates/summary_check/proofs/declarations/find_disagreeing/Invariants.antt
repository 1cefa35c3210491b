use Rattle.std.proofs.Common.{◌++◌, ◌<◌, ℕ, List, None}
use Rattle.std.specs.Prelude.{take}
use Rattle.mcap_model.specs.Places.{At, Each}
use Rattle.mcap_model.specs.Tops.{Top, flat}
use Rattle.mcap_model.specs.Rules.{V7}
use Rattle.mcap_model.specs.Declarations.{TablesOf}
use Rattle.summary_read.specs.PartSteps.{cut_tops}
use Rattle.summary_read.specs.Steps.{Judged}
use Rattle.summary_check.proofs.declarations.find_disagreeing.Given as goal

abbrev pub invariant-records : goal.invariant-records
invariant-records l = (tops : List Top) → TablesOf (flat tops) l.fn.tables → Each (λ t. Judged t None) (cut_tops l.bytes l.cuts)
    → TablesOf (flat (tops ++ take l.i (cut_tops l.bytes l.cuts))) l.tables × ((k : ℕ) (t : Top) → At (cut_tops l.bytes l.cuts) k t → k < l.i → V7 (tops ++ take k (cut_tops l.bytes l.cuts)) t)
