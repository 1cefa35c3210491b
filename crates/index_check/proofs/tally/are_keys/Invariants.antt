use Rattle.std.proofs.Common.{◌<◌, ℕ}
use Rattle.mcap_model.specs.Places.{At}
use Rattle.index_check.specs.Tally.{HasChannelCount}
use Rattle.index_check.proofs.tally.are_keys.Given as goal

abbrev pub invariant-counts : goal.invariant-counts
invariant-counts l = (k : ℕ) (entry : ℕ × ℕ) → At l.counts k entry → k < l.i → HasChannelCount l.map entry.0
