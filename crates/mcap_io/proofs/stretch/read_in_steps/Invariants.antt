use Rattle.std.proofs.Common.{length, ◌-◌, ◌≡◌, ◌≤◌, ◌<◌, ℕ, List, Some}
use Rattle.mcap_io.proofs.Filling.{FilledSoFar}
use Rattle.mcap_io.proofs.stretch.read_in_steps.Given as goal

abbrev pub invariant-steps : goal.invariant-steps
invariant-steps g l = record {
  bound : l.filled ≤ length l.buffer.items;
  within : l.filled ≤ l.len;
  fits : l.room ≤ l.len;
  some : l.filled < l.len → l.filled < l.room;
  still : (g.S.Source.state l.source).faults ≡ (g.S.Source.state l.fn.source).faults;
  stays : g.S.Source.stays l.fn.source l.source;
  small : l.len ≤ 65536 → (l.room ≡ l.len) × (l.filled < l.len → g.S.Source.state l.source ≡ g.S.Source.state l.fn.source);
  so_far : (rest : List ℕ) → (g.S.Source.state l.fn.source).left ≡ Some rest → FilledSoFar rest (g.S.Source.state l.source).left l.buffer.items l.filled;
}

abbrev pub decreases-steps : goal.decreases-steps
decreases-steps g l = l.len - l.filled
