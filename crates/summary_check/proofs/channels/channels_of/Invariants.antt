use Rattle.std.specs.Prelude.{take}
use Rattle.summary_read.specs.PartSteps.{cut_tops}
use Rattle.summary_check.specs.Declaring.{AreChannelIds}
use Rattle.summary_check.proofs.channels.channels_of.Given as goal

abbrev pub invariant-records : goal.invariant-records
invariant-records l = AreChannelIds (take l.i (cut_tops l.bytes l.cuts)) l.ids
