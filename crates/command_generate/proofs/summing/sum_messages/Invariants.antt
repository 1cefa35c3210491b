use Rattle.mcap_scan.specs.Walking.{flat_left}
use Rattle.command_generate.proofs.Summed.{SumsSoFar}
use Rattle.command_generate.proofs.summing.sum_messages.Given as goal

abbrev pub decreases-records : goal.decreases-records
decreases-records g l = flat_left l.flat

abbrev pub invariant-records : goal.invariant-records
invariant-records g l = SumsSoFar l.flat (g.S.Source.state l.fn.source) (g.S.Source.state l.source) l.sums × g.S.Source.stays l.fn.source l.source
