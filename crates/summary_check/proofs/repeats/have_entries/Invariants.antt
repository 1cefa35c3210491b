use Rattle.std.proofs.Common.{◌<◌, ℕ}
use Rattle.mcap_model.specs.Places.{At, Has}
use Rattle.summary_check.proofs.repeats.have_entries.Given as goal

abbrev pub invariant-counts : goal.invariant-counts
invariant-counts l = (k : ℕ) (entry : ℕ × ℕ) → At l.counts k entry → k < l.i → Has l.ids entry.0
