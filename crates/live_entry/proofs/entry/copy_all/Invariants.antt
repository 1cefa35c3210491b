use Rattle.std.proofs.Common.{◌≡◌, ◌++◌, take}
use Rattle.live_entry.proofs.entry.copy_all.Given as goal

abbrev pub invariant-loop-entry : goal.invariant-loop-entry
invariant-loop-entry g l = l.to.items ≡ l.initial.to.items ++ take l.entry-index l.from
