-- What became of all names of a merging.
use Rattle.std.specs.Prelude.{ℕ, List}
use Rattle.mcap_io.specs.Outside.{WorldState, Opening}
use Rattle.mcap_io.specs.declared.outside.ObjectKind.TheVariants as kinds
use Rattle.command_write.specs.declared.merging.Outcome.{Outcome}
use Rattle.command_base.specs.Outputs.{inputs_and_output}
use Rattle.command_base.specs.OutputSteps.{NamesEnd}
use Rattle.command_write.specs.Merge.{IsMerging, ending_of_merging}

-- what became of all names, and which of them failed; where the merging failed, a failure of one is told
pub record NamesMerged (chunk : ℕ) (inputs : List (List ℕ)) (out : List ℕ) (old new : WorldState) (outcome : Outcome)
    : Type 0 where
  pub entries : List Opening
  pub comes : IsMerging chunk inputs out old new entries outcome.merging
  pub ends : NamesEnd (inputs_and_output kinds.Store inputs out) old new entries outcome.inputs_failed.items
      outcome.out_failed (λ some. ending_of_merging inputs outcome.merging)
