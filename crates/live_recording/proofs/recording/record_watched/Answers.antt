use Rattle.std.proofs.Common.{◌≡◌, [], length, map, sym, ap, ◌∙◌, arith}
use Rattle.std.specs.Prelude.{vec_len}
use Rattle.std.proofs.lemmas.Bool.Decides.{nat_tests}
use Rattle.recorder.specs.Recorded.{sides, Recorded}
use Rattle.live_recording.proofs.Seating.{nothing_left}
use Rattle.live_recording.proofs.Watchers.{alone_so}
use Rattle.live_recording.proofs.recording.record_watched.Goals as goal

pub returns-then-is_empty-clause-recorded : goal.returns-then-is_empty-clause-recorded
returns-then-is_empty-clause-recorded g c = λ r is.
    let source = g.S.Source.state in
    let live = g.L.LiveStore.state in
    let state = g.K.Sink.state in
    let alone = c.alone.result in
    let same = c.alone.ensures.same in
    let no_sinks : vec_len c.args.watchers ≡ 0 = grind (arith, nat_tests, sym c.is_empty.ensures ∙ c.if-is_empty.true) in
    let none : c.args.watchers.items ≡ [] = nothing_left c.args.watchers.items (omega arith) in
    let recorded : Recorded c.args.options.now (sides (map source c.args.feeds.items) (live c.args.live)) (sides (map source alone.feeds.items) (live alone.live)) r = rw (same.1, same.2) (c.record.ensures.recorded r (sym same.0 ∙ is)) in
    alone_so {X = g.row.L-Extent.Denot} (λ e. g.L.Extent.Extent.tells e) c.args.options.now c.args.range (map source c.args.feeds.items) (live c.args.live) (sides (map source alone.feeds.items) (live alone.live)) r _
    recorded (ap (map state) none) (ap (λ (v : _). map state v.items) same.3) (ap (map (λ v. g.L.View.LiveView.failures v)) c.alone.ensures.none.1) c.alone.ensures.none.0 c.alone.ensures.sealed

pub returns-then-is_empty-clause-listed : goal.returns-then-is_empty-clause-listed
returns-then-is_empty-clause-listed g c = λ r is. c.record.ensures.listed r (sym c.alone.ensures.same.0 ∙ is)
