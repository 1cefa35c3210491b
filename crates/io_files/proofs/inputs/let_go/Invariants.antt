use Rattle.std.proofs.Common.{length, drop, ◌≡◌, ◌≤◌, All}
use Rattle.io_files.proofs.inputs.let_go.Given as goal

abbrev pub invariant-walk : goal.invariant-walk
invariant-walk l = record {
  same : l.inputs.items ≡ l.fn.inputs.items;
  bound : l.at ≤ length l.inputs.items;
  others : All (λ input. input ≡ l.id → ⊥) (drop l.at l.inputs.items);
}

abbrev pub decreases-walk : goal.decreases-walk
decreases-walk l = l.at
