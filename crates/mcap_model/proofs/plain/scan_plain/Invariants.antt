use Rattle.std.proofs.Common.{◌-◌, length}
use Rattle.mcap_model.proofs.NamedTopics.{ScansSoFar}
use Rattle.mcap_model.proofs.plain.scan_plain.Given as goal

abbrev pub decreases-records : goal.decreases-records
decreases-records l = length l.bytes - l.at

abbrev pub invariant-records : goal.invariant-records
invariant-records l = ScansSoFar l.bytes l.at l.tables l.shown.items
