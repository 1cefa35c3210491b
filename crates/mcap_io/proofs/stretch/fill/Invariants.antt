use Rattle.std.proofs.Common.{length, ◌-◌, ◌≡◌, ◌≤◌, ℕ, List, Some}
use Rattle.mcap_io.proofs.Filling.{FilledSoFar}
use Rattle.mcap_io.proofs.stretch.fill.Given as goal

abbrev pub invariant-fill : goal.invariant-fill
invariant-fill g l = record {
  bound : l.filled ≤ length l.out;
  still : (g.S.Source.state l.source).faults ≡ (g.S.Source.state l.fn.source).faults;
  stays : g.S.Source.stays l.fn.source l.source;
  so_far : (rest : List ℕ) → (g.S.Source.state l.fn.source).left ≡ Some rest → FilledSoFar rest (g.S.Source.state l.source).left l.out l.filled;
}

abbrev pub decreases-fill : goal.decreases-fill
decreases-fill g l = length l.initial.out - l.filled
