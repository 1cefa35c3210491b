use Rattle.std.proofs.Common.{◌-◌, ◌≤◌}
use Rattle.mcap_scan.specs.Scanning.{next_offset}
use Rattle.mcap_merge.proofs.Held.{HoldsSoFar}
use Rattle.mcap_merge.proofs.input.read_input.Given as goal

abbrev pub decreases-records : goal.decreases-records
decreases-records g l = 1099511627776 - next_offset l.reader

abbrev pub invariant-records : goal.invariant-records
invariant-records g l = HoldsSoFar l.reader (g.S.Source.state l.fn.source) (g.S.Source.state l.source) l.held × (next_offset l.reader ≤ 1099511627776) × g.S.Source.stays l.fn.source l.source
