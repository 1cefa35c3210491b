use Rattle.std.proofs.Common.{◌-◌, ◌≡◌, length}
use Rattle.mcap_model.specs.History.{history_bytes}
use Rattle.record_cache.proofs.Walking.{IsBehind}
use Rattle.recording_tests.proofs.caches.are_walked.Given as goal

abbrev pub invariant-records : goal.invariant-records
invariant-records l = IsBehind l.cache.records l.at × (l.held ≡ length (history_bytes l.cache.records))

abbrev pub decreases-records : goal.decreases-records
decreases-records l = l.held - l.at
