use Rattle.std.proofs.Common.{take}
use Rattle.indexed_replay.specs.Steps.{AreTimely}
use Rattle.indexed_replay.proofs.entries.timely.Given as goal

abbrev pub invariant-entries : goal.invariant-entries
invariant-entries l = AreTimely l.range (take l.i l.entries) l.timely.items
