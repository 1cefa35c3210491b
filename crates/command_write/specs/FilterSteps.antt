-- What became of both names of a filtering.
use Rattle.std.specs.Prelude.{ℕ, List, [], ◌∷◌, Bool, true, false}
use Rattle.mcap_io.specs.Outside.{WorldState, Opening}
use Rattle.command_base.specs.OutputSteps.{NamesEnd}
use Rattle.command_write.specs.declared.filtering.Filtering.{Filtering}
use Rattle.command_write.specs.declared.filtering.Filtering.TheVariants as filterings
use Rattle.command_write.specs.declared.filtering.Sifted.{Sifted}
use Rattle.command_write.specs.Filter.{FilterRequest, filter_lacks, IsFiltering, ending_of_filtering}
use Rattle.command_write.specs.Recover.{both_names}

-- an opening failed, or memory lacked for it
abbrev pub unopened_filtering : Bool → Filtering
unopened_filtering true = filterings.Unopened
unopened_filtering false = filter_lacks

-- what became of both names, and which of them failed; where the filtering failed, a failure of one is told
pub record NamesFiltered (asked : FilterRequest) (input out : List ℕ) (old new : WorldState) (sifted : Sifted) : Type 0 where
  pub entries : List Opening
  pub comes : IsFiltering asked input out old new entries sifted.filtering
  pub ends : NamesEnd (both_names input out) old new entries (sifted.input_failed ∷ []) sifted.out_failed
      (λ some. ending_of_filtering input sifted.filtering)
