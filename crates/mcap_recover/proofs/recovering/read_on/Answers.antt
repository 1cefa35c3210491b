-- A record more was given and kept, or the reading came to its end.
use Rattle.std.proofs.Common.{List, ℕ, refl, sym, subst, ◌∙◌}
use Rattle.mcap_model.specs.Made.{top}
use Rattle.mcap_model.specs.Rules.{V6, V10}
use Rattle.chunk_writer.specs.Stops.{StopCause}
use Rattle.mcap_scan.specs.Walking.{IsFlatDone}
use Rattle.record_keeping.specs.Keeping.{AddsOneRecord}
use Rattle.record_keeping.proofs.Reading.{frame_held}
use Rattle.mcap_recover.proofs.Reading.{repairing_on, stopped_on_it, ended_over, refused_over}
use Rattle.mcap_recover.proofs.recovering.read_on.Goals as goal

pub records-init : goal.records-init
records-init g c = (c.requires.some, λ options before opened was. was, c.requires.going, refl, g.S.Source.stays_so c.args.source.now)

pub keep_record-requires-clause-going : goal.keep_record-requires-clause-going
keep_record-requires-clause-going g c = let (some, each, going, still, stays) = c.records.invariant in going

pub keep_record-requires-clause-v6 : goal.keep_record-requires-clause-v6
keep_record-requires-clause-v6 g c =
    let (some, each, going, still, stays) = c.records.invariant in
    let (options, before, opened, was) = some in
    let gives = c.in-Record.ensures.steps before was.tops was.given was.stands in
    subst (λ (l : List ℕ). V6 (top c.in-Record.op l)) (sym c.content.ensures) gives.v6

pub keep_record-requires-clause-v10 : goal.keep_record-requires-clause-v10
keep_record-requires-clause-v10 g c =
    let (some, each, going, still, stays) = c.records.invariant in
    let (options, before, opened, was) = some in
    let gives = c.in-Record.ensures.steps before was.tops was.given was.stands in
    subst (λ (l : List ℕ). V10 (top c.in-Record.op l)) (sym c.content.ensures) gives.v10

pub keep_record-requires-clause-framed : goal.keep_record-requires-clause-framed
keep_record-requires-clause-framed g c =
    let (some, each, going, still, stays) = c.records.invariant in
    let (options, before, opened, was) = some in
    let gives = c.in-Record.ensures.steps before was.tops was.given was.stands in
    frame_held c.advance.new.self c.in-Record.op c.content.result.now c.frame.result c.content.ensures c.frame.ensures gives.frame

pub records-preserved : goal.records-preserved
records-preserved g c =
    let (some, each, going, still, stays) = c.records.invariant in
    let (options, before, opened, was) = some in
    let undone : IsFlatDone c.records.reader → ⊥ = λ done. (c.in-Record.ensures.over done).2 in
    let takes = subst (λ (l : List ℕ). AddsOneRecord g.L.LiveStore.state c.records.k c.keep_record.new.k c.frame.result (top c.in-Record.op l)) c.content.ensures c.in-Ok.ensures.takes in (
      (options, before, opened, repairing_on g.L.LiveStore.state options before _ _ opened c.records.reader c.advance.new.self c.records.k c.keep_record.new.k c.in-Record.op c.in-Record.place c.frame.result was undone (c.in-Record.ensures.steps before was.tops was.given was.stands) c.frame.ensures takes),
      λ o b l first. let later = each o b l first in
          repairing_on g.L.LiveStore.state o b _ _ l c.records.reader c.advance.new.self c.records.k c.keep_record.new.k c.in-Record.op c.in-Record.place c.frame.result later undone (c.in-Record.ensures.steps b later.tops later.given later.stands) c.frame.ensures takes,
      c.in-Ok.ensures.goes_on,
      c.in-Ok.ensures.cause ∙ still,
      g.S.Source.stays_on c.args.source.now c.records.source c.advance.new.source stays c.in-Record.ensures.stays,
    )

pub returns-in-Err-clause-reads : goal.returns-in-Err-clause-reads
returns-in-Err-clause-reads g c =
    let (some, each, going, still, stays) = c.records.invariant in
    let undone : IsFlatDone c.records.reader → ⊥ = λ done. (c.in-Record.ensures.over done).2 in
    let takes = subst (λ (l : List ℕ). AddsOneRecord g.L.LiveStore.state c.records.k c.keep_record.new.k c.frame.result (top c.in-Record.op l)) c.content.ensures c.in-Err.ensures.takes in
    λ o b l first. let later = each o b l first in
    stopped_on_it g.L.LiveStore.state o b _ _ l c.records.reader c.advance.new.self c.records.k c.keep_record.new.k c.in-Record.op c.in-Record.place c.frame.result c.in-Err.stop later undone (c.in-Record.ensures.steps b later.tops later.given later.stands) c.frame.ensures takes going c.in-Err.ensures.keeps c.in-Err.ensures.stopped

pub returns-in-Err-clause-cause : goal.returns-in-Err-clause-cause
returns-in-Err-clause-cause g c =
    let (some, each, going, still, stays) = c.records.invariant in
    subst (λ faults. StopCause faults (g.L.LiveStore.state c.keep_record.new.k.scribe.store).faults c.in-Err.stop) still c.in-Err.ensures.cause

pub returns-in-End-clause-reads : goal.returns-in-End-clause-reads
returns-in-End-clause-reads g c =
    let (some, each, going, still, stays) = c.records.invariant in
    λ o b l first. let later = each o b l first in
    ended_over g.L.LiveStore.state o b _ _ l c.records.reader c.advance.new.self c.records.k c.in-End.offset later (c.in-End.ensures.steps b later.tops later.given later.stands)

pub returns-in-Refused-clause-reads : goal.returns-in-Refused-clause-reads
returns-in-Refused-clause-reads g c =
    let (some, each, going, still, stays) = c.records.invariant in
    λ o b l first. let later = each o b l first in
    refused_over g.L.LiveStore.state o b _ _ l c.records.reader c.advance.new.self c.records.k later (c.in-Refused.ensures.steps b later.tops later.given later.stands)
