use Rattle.std.proofs.Common.{List, map, sym, ap, subst}
use Rattle.rec_data.specs.declared.owned.Rec.{Rec}
use Rattle.mcap_model.specs.declared.ends.Stop.{Stop}
use Rattle.mcap_model.specs.declared.ends.End.TheVariants as ends
use Rattle.recorder.specs.declared.report.Report.{Report}
use Rattle.recorder.specs.Onto.{IsReported}
use Rattle.recorder.proofs.Assembling.{is_reported}
use Rattle.recorder.proofs.unopened.run_unwritten.Goals as goal

pub returns-clause-reported : goal.returns-clause-reported
returns-clause-reported g c =
    let state = g.S.Source.state in
    let lanes = c.args.lanes in
    let ran = c.run-control in
    let drain = c.args.drain.seat.me.0 in
    let r : Report = record { feeds = ran.result.reports; writer = record { records = 0; blocks = 0; bytes = 0; end = ends.Stopped c.args.why } } in
    subst (λ (history : List Rec). IsReported lanes.control.seat.me.0.pass.limit lanes.lossless (map (λ lane. state lane.source) lanes.lanes.items) (map state ran.result.feeds.items) history r) c.requires.none
    (is_reported c.places_are_known.ensures lanes.control.seat.me.0.pass.limit lanes.lossless c.args.listed (map (λ lane. state lane.source) lanes.lanes.items) (map state ran.result.feeds.items)
    ran.result.control.seat.me.0.post drain.pass drain.post r ran.ensures.ran c.requires.over c.meet.ensures.met (λ stop is. ap (λ (s : Stop). ends.Stopped s) (sym (c.requires.stops stop is))))
