use Rattle.std.proofs.Common.{map, sym, subst}
use Rattle.mcap_model.specs.Places.{Each}
use Rattle.feed_lane.specs.Steps.{ListsMessages}
use Rattle.recorder.specs.Writing.{seen_tape}
use Rattle.recorder.specs.Onto.{tape_sides, RecordedOnto}
use Rattle.recorder.specs.declared.report.Report.{Report}
use Rattle.recorder.proofs.Assembling.{is_reported}
use Rattle.recorder.proofs.recording.run_beside.Goals as goal

pub returns-clause-recorded : goal.returns-clause-recorded
returns-clause-recorded g c =
    let wrote = c.join-written.ensures.first in
    let ran = c.join-written.ensures.second in
    let state = g.S.Source.state in
    let lanes = c.args.lanes in
    let now = c.join-written.result.1 in
    let drain = c.join-written.result.0.drain.seat.me.0 in
    let r : Report = record { feeds = now.reports; writer = c.join-written.result.0.report } in
    let recorded : RecordedOnto (seen_tape g.T.Tape.grows g.T.Tape.ends g.T.Tape.limit_met g.T.Tape.phase g.T.Tape.numbers g.T.Tape.failures) lanes.control.seat.me.0.pass.limit lanes.lossless (tape_sides (map (λ lane. state lane.source) lanes.lanes.items) c.args.writer.tape) (tape_sides (map state now.feeds.items) c.join-written.result.0.tape) r = record {
      history = drain.post.taken;
      reported = is_reported c.places_are_known.ensures lanes.control.seat.me.0.pass.limit lanes.lossless c.args.listed (map (λ lane. state lane.source) lanes.lanes.items) (map state now.feeds.items)
          now.control.seat.me.0.post drain.pass drain.post r ran.1.0 wrote.1.0 c.meet.ensures.met wrote.1.1.1.1;
      written = wrote.1.1.0;
      all = wrote.1.1.1.0;
    } in
    subst (λ (ran : _). RecordedOnto (seen_tape g.T.Tape.grows g.T.Tape.ends g.T.Tape.limit_met g.T.Tape.phase g.T.Tape.numbers g.T.Tape.failures) lanes.control.seat.me.0.pass.limit lanes.lossless (tape_sides (map (λ lane. state lane.source) lanes.lanes.items) c.args.writer.tape) (tape_sides (map state ran.feeds.items) ran.tape) ran.report) (sym c.handed_back.ensures) recorded

pub returns-clause-listed : goal.returns-clause-listed
returns-clause-listed g c = subst (λ (ran : _). Each (λ f. ListsMessages f c.args.listed) ran.report.feeds.items) (sym c.handed_back.ensures) c.join-written.ensures.second.1.0.lists
