-- What became of both names of a recovery.
use Rattle.std.specs.Prelude.{ℕ, List, [], ◌∷◌, Bool, true, false}
use Rattle.mcap_io.specs.Outside.{WorldState, Opening}
use Rattle.mcap_recover.specs.Recovering.{lacks}
use Rattle.command_write.specs.declared.recovering.Recovery.{Recovery}
use Rattle.command_write.specs.declared.recovering.Recovery.TheVariants as recoveries
use Rattle.command_write.specs.declared.recovering.Restored.{Restored}
use Rattle.command_base.specs.OutputSteps.{NamesEnd}
use Rattle.command_write.specs.Recover.{IsRecovery, ending_of_recovery, both_names}

-- an opening failed, or memory lacked for it
abbrev pub unopened_recovery : Bool → Recovery
unopened_recovery true = recoveries.Unopened
unopened_recovery false = recoveries.Refused lacks

-- what became of both names, and which of them failed; where the recovery failed, a failure of one is told
pub record NamesRecovered (chunk : ℕ) (input out : List ℕ) (old new : WorldState) (restored : Restored) : Type 0 where
  pub entries : List Opening
  pub comes : IsRecovery chunk input out old new entries restored.recovery
  pub ends : NamesEnd (both_names input out) old new entries (restored.input_failed ∷ []) restored.out_failed
      (λ some. ending_of_recovery input restored.recovery)
