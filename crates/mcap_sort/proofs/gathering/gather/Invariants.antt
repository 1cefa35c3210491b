use Rattle.std.proofs.Common.{◌-◌, ◌≤◌}
use Rattle.mcap_scan.specs.Scanning.{next_offset}
use Rattle.mcap_sort.proofs.Held.{GathersSoFar}
use Rattle.mcap_sort.proofs.gathering.gather.Given as goal

abbrev pub decreases-records : goal.decreases-records
decreases-records g l = 1099511627776 - next_offset l.reader

abbrev pub invariant-records : goal.invariant-records
invariant-records g l = GathersSoFar l.reader (g.S.Source.state l.fn.source) (g.S.Source.state l.source) l.held l.declared × (next_offset l.reader ≤ 1099511627776) × g.S.Source.stays l.fn.source l.source
