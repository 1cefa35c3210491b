use Rattle.std.proofs.Common.{ℕ, ◌≡◌, ◌<◌}
use Rattle.mcap_model.specs.Places.{At}
use Rattle.mcap_merge.specs.declared.input.Input.{Input}
use Rattle.mcap_merge.proofs.profile.common_profile.Given as goal

abbrev pub invariant-inputs : goal.invariant-inputs
invariant-inputs l = (k : ℕ) (x : Input) → k < l.i → At l.inputs k x → x.profile ≡ l.first
