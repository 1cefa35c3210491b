use Rattle.std.proofs.Common.{◌-◌, length}
use Rattle.summary_check.specs.Cutting.{CutsBehindTo}
use Rattle.summary_check.proofs.cutting.cut_records.Given as goal

abbrev pub invariant-records : goal.invariant-records
invariant-records l = CutsBehindTo l.bytes l.at l.cuts.items

abbrev pub decreases-records : goal.decreases-records
decreases-records l = length l.bytes - l.at
