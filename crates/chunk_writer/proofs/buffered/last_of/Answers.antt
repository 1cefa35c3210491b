-- Each record is walked past, up to the last one.
use Rattle.std.proofs.Common.{arith}
use Rattle.record_cache.proofs.Walking.{next_there}
use Rattle.chunk_writer.proofs.Fronts.{last_begun, last_later, last_done, later_starts}
use Rattle.chunk_writer.proofs.buffered.last_of.Goals as goal

pub records-init : goal.records-init
records-init c = (last_begun c.args.full.now.records c.record-next.result.next c.record-next.result.framed.now c.requires c.record-next.ensures, c.held-held.ensures.held)

pub record-next-requires-in-records : goal.record-next-requires-in-records
record-next-requires-in-records c =
    let (walked, held) = c.records.invariant in
    later_starts c.args.full.now.records c.records.last c.records.next walked (omega (arith, c.records-test.true, held))

pub records-smaller : goal.records-smaller
records-smaller c =
    let (walked, held) = c.records.invariant in
    let next = next_there c.args.full.now.records c.records.next c.record-next-in-records.result.next c.record-next-in-records.result.framed.now
    (later_starts c.args.full.now.records c.records.last c.records.next walked (omega (arith, c.records-test.true, held))) c.record-next-in-records.ensures in
    omega (arith, next.1, c.records-test.true)

pub records-preserved : goal.records-preserved
records-preserved c =
    let (walked, held) = c.records.invariant in (
      last_later c.args.full.now.records c.records.last c.records.next c.record-next-in-records.result.next c.record-next-in-records.result.framed.now walked (omega (arith, c.records-test.true, held)) c.record-next-in-records.ensures,
      held,
    )

pub returns : goal.returns
returns c =
    let (walked, held) = c.records.invariant in
    last_done c.args.full.now.records c.records.last c.records.next walked (λ less. omega (arith, c.records-test.false, held, less))
