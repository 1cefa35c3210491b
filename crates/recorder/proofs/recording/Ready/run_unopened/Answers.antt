use Rattle.std.proofs.Common.{[], map, refl, sym, ap, ◌∙◌}
use Rattle.feed_lane.specs.Pass.{PassState}
use Rattle.recorder.proofs.Collecting.{map_map}
use Rattle.recorder.proofs.Filing.{reported_so}
use Rattle.recorder.proofs.recording.Ready.run_unopened.Goals as goal

pub returns-clause-reported : goal.returns-clause-reported
returns-clause-reported g c =
    let source = g.S.Source.state in
    let ran = c.run_unwritten in
    let added = c.add_all.ensures in
    let lanes = c.add_all.new.self in
    let limit = added.limit ∙ ap (λ (p : PassState). p.limit) c.stop_unread.ensures.limit in
    let sources = sym (map_map (λ lane. lane.source) source (λ lane. source lane.source) (λ x. refl) lanes.lanes.items) ∙ ap (map source) added.sources in
    reported_so _ _ _ _ _ _ _ [] ran.result.report limit added.same.0 sources ran.ensures.reported
