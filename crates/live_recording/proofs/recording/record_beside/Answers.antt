use Rattle.std.proofs.Common.{map, refl, arith}
use Rattle.recorder.specs.Recorded.{sides}
use Rattle.live_recording.proofs.Seating.{seats_many}
use Rattle.live_recording.proofs.Watchers.{watched_so, listed_so}
use Rattle.live_recording.proofs.recording.record_beside.Goals as goal

pub finish_seats-reports-requires-clause-reports : goal.finish_seats-reports-requires-clause-reports
finish_seats-reports-requires-clause-reports g c =
    let made = c.make_seats-seats in
    let ran = c.run_beside-seats in
    let many = seats_many g.K.Sink.state c.args.range (g.L.LiveStore.state c.args.live) (g.L.LiveStore.state made.new.live) c.args.watchers.items made.result.items made.ensures.made in
    (c.requires.watches.0, omega (arith, c.requires.watches.1, ran.ensures.ran.0, many))

pub finish_seats-reports-requires-clause-views : goal.finish_seats-reports-requires-clause-views
finish_seats-reports-requires-clause-views g c =
    let made = c.make_seats-seats in
    let ran = c.run_beside-seats in
    let many = seats_many g.K.Sink.state c.args.range (g.L.LiveStore.state c.args.live) (g.L.LiveStore.state made.new.live) c.args.watchers.items made.result.items made.ensures.made in
    (c.requires.views.0, omega (arith, c.requires.views.1, ran.ensures.ran.0, many))

pub finish_seats-reports-requires-clause-sinks : goal.finish_seats-reports-requires-clause-sinks
finish_seats-reports-requires-clause-sinks g c =
    let made = c.make_seats-seats in
    let ran = c.run_beside-seats in
    let many = seats_many g.K.Sink.state c.args.range (g.L.LiveStore.state c.args.live) (g.L.LiveStore.state made.new.live) c.args.watchers.items made.result.items made.ensures.made in
    (c.requires.sinks.0, omega (arith, c.requires.sinks.1, ran.ensures.ran.0, many))

pub returns-clause-recorded : goal.returns-clause-recorded
returns-clause-recorded g c = λ r is.
    let source = g.S.Source.state in
    let live = g.L.LiveStore.state in
    let made = c.make_seats-seats in
    let ran = c.run_beside-seats in
    let wrote = ran.result.1 in
    watched_so {X = g.row.L-Extent.Denot} (λ e. g.L.Extent.Extent.tells e) g.K.Sink.state c.args.range wrote.3 c.args.options.now
    (sides (map source c.args.feeds.items) (live c.args.live)) (sides (map source wrote.1.items) (live wrote.2)) (live made.new.live) c.args.watchers.items made.result.items ran.result.0.items wrote.0 r _ is refl
    c.requires.some made.ensures.made ran.ensures.ran c.finish_seats-reports.ensures ran.ensures.recorded.0 ran.ensures.recorded.1 c.is_sealed.ensures

pub returns-clause-listed : goal.returns-clause-listed
returns-clause-listed g c = λ r is. let ran = c.run_beside-seats in listed_so c.args.listed ran.result.1.0 r is ran.ensures.listed
