use Rattle.std.proofs.Common.{◌≡◌, take}
use Rattle.index_check.proofs.entries.copy_entries.Given as goal

abbrev pub invariant-entries : goal.invariant-entries
invariant-entries l = l.copy.items ≡ take l.i l.entries
