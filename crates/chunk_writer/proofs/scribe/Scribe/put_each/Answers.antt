-- A buffer was put, whole or up to the record that was refused.
use Rattle.std.proofs.Common.{ℕ, refl, subst, arith}
use Rattle.record_cache.proofs.Walking.{next_there}
use Rattle.live_entry.specs.Entries.{seen_before}
use Rattle.chunk_writer.specs.Stops.{StopCause}
use Rattle.chunk_writer.proofs.Taking.{begun, step, starts, some_left, framed_there, all_grows, all_front, front_stopped, stopped_grows, keeps_more}
use Rattle.chunk_writer.proofs.scribe.Scribe.put_each.Goals as goal

pub records-smaller : goal.records-smaller
records-smaller g c =
    let (way, held, kept) = c.records.invariant in
    let next = next_there c.args.full.now.records c.records.at c.record-found.result.next c.record-found.result.framed.now
    (starts c.args.full.now.records c.records.at way.count way.within way.place (omega (arith, c.records-test.true, held))) c.record-found.ensures in
    omega (arith, next.1, c.records-test.true)

pub records-preserved : goal.records-preserved
records-preserved g c =
    let (way, held, kept) = c.records.invariant in (
      step g.L.LiveStore.state (seen_before {X = g.row.L-Extent.Denot} (λ e. g.L.Extent.Extent.tells e) (λ e. g.L.Extent.Extent.size e) (g.L.LiveStore.state c.args.self.now.store)) c.args.self.now c.records.self c.put_listed.new.self c.args.full.now.records
          c.records.at c.record-found.result.next c.record-found.result.framed.now c.records.entries.items c.put_listed.new.entries.items refl kept way (omega (arith, c.records-test.true, held)) c.record-found.ensures
          c.in-Ok.ensures.grows c.in-Ok.ensures.lists c.in-Ok.ensures.counted c.in-Ok.ensures.keeps c.in-Ok.ensures.goes_on c.in-Ok.ensures.within c.in-Ok.ensures.cause,
      held,
      kept,
    )

pub returns-in-Err-clause-grows : goal.returns-in-Err-clause-grows
returns-in-Err-clause-grows g c =
    let (way, held, kept) = c.records.invariant in
    stopped_grows g.L.LiveStore.state _ c.args.self.now c.records.self c.put_listed.new.self c.args.full.now.records c.records.at c.record-found.result.next c.record-found.result.framed.now _ c.in-Err.stop kept way
    (omega (arith, c.records-test.true, held)) c.record-found.ensures c.in-Err.ensures.grows c.in-Err.ensures.stopped

pub returns-clause-grows : goal.returns-clause-grows
returns-clause-grows g c =
    let (way, held, kept) = c.records.invariant in
    all_grows g.L.LiveStore.state _ c.args.self.now c.records.self c.args.full.now.records c.records.at _ way (λ less. omega (arith, c.records-test.false, held, less))

pub returns-clause-front : goal.returns-clause-front
returns-clause-front g c =
    let (way, held, kept) = c.records.invariant in
    all_front g.L.LiveStore.state _ c.args.self.now c.records.self c.args.full.now.records c.records.at _ way (λ less. omega (arith, c.records-test.false, held, less))

pub record-found-requires : goal.record-found-requires
record-found-requires g c =
    let (way, held, kept) = c.records.invariant in
    starts c.args.full.now.records c.records.at way.count way.within way.place (omega (arith, c.records-test.true, held))

pub returns-in-Err-clause-front : goal.returns-in-Err-clause-front
returns-in-Err-clause-front g c =
    let (way, held, kept) = c.records.invariant in
    front_stopped g.L.LiveStore.state _ c.args.self.now c.records.self c.args.full.now.records c.records.at c.records.entries.items c.put_listed.new.entries.items _ c.in-Err.stop way (omega (arith, c.records-test.true, held))
    c.in-Err.ensures.uncounted.1 c.in-Err.ensures.uncounted.0

pub returns-in-Err-clause-keeps : goal.returns-in-Err-clause-keeps
returns-in-Err-clause-keeps g c = keeps_more _ _ _ c.records.invariant.0.keeps c.in-Err.ensures.keeps

pub returns-in-Err-clause-stopped : goal.returns-in-Err-clause-stopped
returns-in-Err-clause-stopped g c = c.in-Err.ensures.stopped

pub returns-clause-counted : goal.returns-clause-counted
returns-clause-counted g c = c.records.invariant.0.counted

pub returns-clause-keeps : goal.returns-clause-keeps
returns-clause-keeps g c = c.records.invariant.0.keeps

pub returns-clause-goes_on : goal.returns-clause-goes_on
returns-clause-goes_on g c = c.records.invariant.0.going

pub returns-clause-within : goal.returns-clause-within
returns-clause-within g c = c.records.invariant.0.holds

pub returns-clause-cause : goal.returns-clause-cause
returns-clause-cause g c = c.records.invariant.0.still

pub records-init : goal.records-init
records-init g c =
    let few = c.blocks-blocks.ensures.few in
    let small = c.bytes-bytes.ensures.small in (
      begun g.L.LiveStore.state (seen_before {X = g.row.L-Extent.Denot} (λ e. g.L.Extent.Extent.tells e) (λ e. g.L.Extent.Extent.size e) (g.L.LiveStore.state c.args.self.now.store)) c.args.self.now c.args.full.now.records c.args.entries.now.items c.requires.going
          record { few = omega (arith, few, c.blocks-blocks.ensures.value); small = omega (arith, small, c.bytes-bytes.ensures.value) } c.requires.none,
      c.held-held.ensures.held,
      c.held-held.ensures.kept,
    )

pub put_listed-requires-clause-framed : goal.put_listed-requires-clause-framed
put_listed-requires-clause-framed g c =
    let (way, held, kept) = c.records.invariant in
    framed_there c.args.full.now.records c.records.at c.record-found.result.next way.count c.record-found.result.framed.now kept
    (some_left c.args.full.now.records c.records.at way.count way.within way.place (omega (arith, c.records-test.true, held))) way.place c.record-found.ensures

pub returns-in-Err-clause-counted : goal.returns-in-Err-clause-counted
returns-in-Err-clause-counted g c =
    let counted = c.records.invariant.0.counted in
    let more = c.in-Err.ensures.counted in
    omega (arith, counted, more)

pub returns-in-Err-clause-cause : goal.returns-in-Err-clause-cause
returns-in-Err-clause-cause g c =
    subst (λ (faults : ℕ). StopCause faults (g.L.LiveStore.state c.put_listed.new.self.store).faults c.in-Err.stop) c.records.invariant.0.still c.in-Err.ensures.cause
