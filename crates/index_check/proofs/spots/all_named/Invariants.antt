use Rattle.std.proofs.Common.{◌≡◌, ◌<◌, ℕ, true}
use Rattle.mcap_model.specs.Places.{At}
use Rattle.index_check.specs.declared.spots.Spot.{Spot}
use Rattle.index_check.proofs.spots.all_named.Given as goal

abbrev pub invariant-spots : goal.invariant-spots
invariant-spots l = (k : ℕ) (s : Spot) → At l.spots k s → k < l.i → s.named ≡ true
