use Rattle.std.proofs.Common.{take}
use Rattle.mcap_merge.specs.ReadingSteps.{EndWithin}
use Rattle.mcap_sort.proofs.reading.first_outside.Given as goal

abbrev pub invariant-spans : goal.invariant-spans
invariant-spans l = EndWithin l.len (take l.i l.spans)
