-- A record more was given and picked, or the reading came to its end.
use Rattle.std.proofs.Common.{List, ℕ, refl, sym, subst, ◌∙◌}
use Rattle.mcap_model.specs.Made.{top}
use Rattle.mcap_model.specs.Plain.{asked_topic}
use Rattle.mcap_model.specs.Rules.{V6, V10}
use Rattle.mcap_scan.specs.Walking.{IsFlatDone}
use Rattle.chunk_writer.specs.Stops.{StopCause}
use Rattle.record_keeping.proofs.Reading.{frame_held}
use Rattle.mcap_filter.specs.Picked.{asking}
use Rattle.mcap_filter.specs.Picking.{PicksOne, picking, start}
use Rattle.mcap_filter.proofs.Walking.{picks_on, cut_on_it, ended_over, refused_over}
use Rattle.mcap_filter.proofs.filtering.pick_on.Goals as goal

pub records-init : goal.records-init
records-init g c = (c.requires.some, λ options before opened was. was, c.requires.going, refl, g.S.Source.stays_so c.args.source.now)

pub pick_record-requires-clause-going : goal.pick_record-requires-clause-going
pick_record-requires-clause-going g c = let (some, each, going, still, stays) = c.records.invariant in going

pub pick_record-requires-clause-v6 : goal.pick_record-requires-clause-v6
pick_record-requires-clause-v6 g c =
    let (some, each, going, still, stays) = c.records.invariant in
    let (options, before, opened, was) = some in
    let gives = c.in-Record.ensures.steps before was.tops was.given was.stands in
    subst (λ (l : List ℕ). V6 (top c.in-Record.op l)) (sym c.content.ensures) gives.v6

pub pick_record-requires-clause-v10 : goal.pick_record-requires-clause-v10
pick_record-requires-clause-v10 g c =
    let (some, each, going, still, stays) = c.records.invariant in
    let (options, before, opened, was) = some in
    let gives = c.in-Record.ensures.steps before was.tops was.given was.stands in
    subst (λ (l : List ℕ). V10 (top c.in-Record.op l)) (sym c.content.ensures) gives.v10

pub pick_record-requires-clause-framed : goal.pick_record-requires-clause-framed
pick_record-requires-clause-framed g c =
    let (some, each, going, still, stays) = c.records.invariant in
    let (options, before, opened, was) = some in
    let gives = c.in-Record.ensures.steps before was.tops was.given was.stands in
    frame_held c.advance.new.self c.in-Record.op c.content.result.now c.frame.result c.content.ensures c.frame.ensures gives.frame

pub records-preserved : goal.records-preserved
records-preserved g c =
    let seen = g.L.LiveStore.state in
    let a = asking c.args.asked.now.range (asked_topic c.args.asked.now.topic) in
    let (some, each, going, still, stays) = c.records.invariant in
    let (options, before, opened, was) = some in
    let undone : IsFlatDone c.records.reader → ⊥ = λ done. (c.in-Record.ensures.over done).2 in
    let takes = subst (λ (l : List ℕ). PicksOne seen a (picking c.records.k c.records.choices) (picking c.pick_record.new.k c.pick_record.new.choices) c.frame.result (top c.in-Record.op l)) c.content.ensures c.in-Ok.ensures.takes in (
      (options, before, opened, picks_on seen (start a options before opened) _ _ c.records.reader c.advance.new.self c.records.k c.pick_record.new.k c.records.choices c.pick_record.new.choices c.in-Record.op c.in-Record.place c.frame.result was undone (c.in-Record.ensures.steps before was.tops was.given was.stands) c.frame.ensures takes),
      λ o b l first. let later = each o b l first in
          picks_on seen (start a o b l) _ _ c.records.reader c.advance.new.self c.records.k c.pick_record.new.k c.records.choices c.pick_record.new.choices c.in-Record.op c.in-Record.place c.frame.result later undone (c.in-Record.ensures.steps b later.tops later.given later.stands) c.frame.ensures takes,
      c.in-Ok.ensures.goes_on,
      c.in-Ok.ensures.cause ∙ still,
      g.S.Source.stays_on c.args.source.now c.records.source c.advance.new.source stays c.in-Record.ensures.stays,
    )

pub returns-in-Err-clause-picks : goal.returns-in-Err-clause-picks
returns-in-Err-clause-picks g c =
    let seen = g.L.LiveStore.state in
    let a = asking c.args.asked.now.range (asked_topic c.args.asked.now.topic) in
    let (some, each, going, still, stays) = c.records.invariant in
    let undone : IsFlatDone c.records.reader → ⊥ = λ done. (c.in-Record.ensures.over done).2 in
    let takes = subst (λ (l : List ℕ). PicksOne seen a (picking c.records.k c.records.choices) (picking c.pick_record.new.k c.pick_record.new.choices) c.frame.result (top c.in-Record.op l)) c.content.ensures c.in-Err.ensures.takes in
    λ o b l first. let later = each o b l first in
    cut_on_it seen (start a o b l) _ _ c.records.reader c.advance.new.self c.records.k c.pick_record.new.k c.records.choices c.pick_record.new.choices c.in-Record.op c.in-Record.place c.frame.result c.in-Err.stop later undone (c.in-Record.ensures.steps b later.tops later.given later.stands) c.frame.ensures takes going c.in-Err.ensures.keeps c.in-Err.ensures.stopped

pub returns-in-Err-clause-cause : goal.returns-in-Err-clause-cause
returns-in-Err-clause-cause g c =
    let (some, each, going, still, stays) = c.records.invariant in
    subst (λ faults. StopCause faults (g.L.LiveStore.state c.pick_record.new.k.scribe.store).faults c.in-Err.stop) still c.in-Err.ensures.cause

pub returns-in-End-clause-picks : goal.returns-in-End-clause-picks
returns-in-End-clause-picks g c =
    let a = asking c.args.asked.now.range (asked_topic c.args.asked.now.topic) in
    let (some, each, going, still, stays) = c.records.invariant in
    λ o b l first. let later = each o b l first in
    ended_over g.L.LiveStore.state (start a o b l) _ _ c.records.reader c.advance.new.self c.records.k c.records.choices c.in-End.offset later (c.in-End.ensures.steps b later.tops later.given later.stands)

pub returns-in-Refused-clause-picks : goal.returns-in-Refused-clause-picks
returns-in-Refused-clause-picks g c =
    let a = asking c.args.asked.now.range (asked_topic c.args.asked.now.topic) in
    let (some, each, going, still, stays) = c.records.invariant in
    λ o b l first. let later = each o b l first in
    refused_over g.L.LiveStore.state (start a o b l) _ _ c.records.reader c.advance.new.self c.records.k c.records.choices later (c.in-Refused.ensures.steps b later.tops later.given later.stands)
