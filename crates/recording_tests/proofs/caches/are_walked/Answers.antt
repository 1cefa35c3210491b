use Rattle.std.proofs.Common.{arith}
use Rattle.record_cache.proofs.Walking.{starts_there, next_there}
use Rattle.recording_tests.proofs.caches.are_walked.Goals as goal

pub records-smaller : goal.records-smaller
records-smaller c =
    let starts = starts_there c.args.cache.now.records c.records.at c.records.invariant.0 (omega (arith, c.records-test.true, c.records.invariant.1)) in
    let next = next_there c.args.cache.now.records c.records.at c.record-found.result.next c.record-found.result.framed.now starts c.record-found.ensures in
    omega (arith, next.1, c.records-test.true)

pub records-preserved : goal.records-preserved
records-preserved c =
    let starts = starts_there c.args.cache.now.records c.records.at c.records.invariant.0 (omega (arith, c.records-test.true, c.records.invariant.1)) in
    let next = next_there c.args.cache.now.records c.records.at c.record-found.result.next c.record-found.result.framed.now starts c.record-found.ensures in
    (next.0, c.records.invariant.1)
