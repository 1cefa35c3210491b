use Rattle.std.proofs.Common.{◌-◌, ◌≤◌}
use Rattle.mcap_scan.specs.Scanning.{next_offset}
use Rattle.merge_walk.proofs.Surveyed.{NotedSoFar}
use Rattle.merge_walk.proofs.surveying.survey_source.Given as goal

abbrev pub decreases-records : goal.decreases-records
decreases-records g l = 1099511627776 - next_offset l.reader

abbrev pub invariant-records : goal.invariant-records
invariant-records g l = NotedSoFar l.reader (g.S.Source.state l.fn.source) (g.S.Source.state l.source) l.spans.items × (next_offset l.reader ≤ 1099511627776) × g.S.Source.stays l.fn.source l.source
