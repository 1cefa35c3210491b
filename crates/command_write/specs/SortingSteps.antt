-- What became of both names of a sorting.
use Rattle.std.specs.Prelude.{ℕ, List}
use Rattle.mcap_io.specs.Outside.{WorldState, Opening}
use Rattle.mcap_io.specs.declared.outside.ObjectKind.TheVariants as kinds
use Rattle.command_base.specs.Outputs.{inputs_and_output}
use Rattle.command_base.specs.OutputSteps.{NamesEnd}
use Rattle.command_write.specs.declared.sorting.Ordered.{Ordered}
use Rattle.command_write.specs.Halting.{name_at}
use Rattle.command_write.specs.Sort.{IsSorting, ending_of_sorting}

-- what became of both names, and which of them failed; where the sorting failed, a failure of one is told
pub record NamesSorted (chunk : ℕ) (inputs : List (List ℕ)) (out : List ℕ) (old new : WorldState) (ordered : Ordered)
    : Type 0 where
  pub entries : List Opening
  pub comes : IsSorting chunk (name_at inputs 0) out old new entries ordered.sorting
  pub ends : NamesEnd (inputs_and_output kinds.Store inputs out) old new entries ordered.inputs_failed.items
      ordered.out_failed (λ some. ending_of_sorting (name_at inputs 0) ordered.sorting)
