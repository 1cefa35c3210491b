use Rattle.std.proofs.Common.{◌<◌, ℕ}
use Rattle.mcap_model.specs.Places.{At}
use Rattle.index_check.specs.Tally.{IsCountOf}
use Rattle.index_check.proofs.tally.are_counts.Given as goal

abbrev pub invariant-counts : goal.invariant-counts
invariant-counts l = (k : ℕ) (entry : ℕ × ℕ) → At l.map k entry → k < l.i → IsCountOf l.counts entry.0 entry.1
