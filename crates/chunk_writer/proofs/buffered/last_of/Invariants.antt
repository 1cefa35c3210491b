use Rattle.std.proofs.Common.{◌≡◌, ◌-◌, length}
use Rattle.mcap_model.specs.History.{history_bytes}
use Rattle.chunk_writer.proofs.Fronts.{LastSoFar}
use Rattle.chunk_writer.proofs.buffered.last_of.Given as goal

abbrev pub invariant-records : goal.invariant-records
invariant-records l = LastSoFar l.full.records l.last l.next × (l.held ≡ length (history_bytes l.full.records))

abbrev pub decreases-records : goal.decreases-records
decreases-records l = l.held - l.next
