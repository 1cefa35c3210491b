use Rattle.std.proofs.Common.{map, refl, sym, ap, ◌∙◌}
use Rattle.recorder.specs.Writing.{seen_tape}
use Rattle.recorder.proofs.Collecting.{map_map}
use Rattle.recorder.proofs.Filing.{onto_so}
use Rattle.recorder.proofs.recording.Ready.run_onto.Goals as goal

pub returns-clause-recorded : goal.returns-clause-recorded
returns-clause-recorded g c =
    let members = g.T.Tape in
    let source = g.S.Source.state in
    let added = c.add_all.ensures in
    let lanes = c.add_all.new.self in
    let sources = sym (map_map (λ lane. lane.source) source (λ lane. source lane.source) (λ x. refl) lanes.lanes.items) ∙ ap (map source) added.sources in
    onto_so (seen_tape members.grows members.ends members.limit_met members.phase members.numbers members.failures) _ _ _ _ _ _ _ _ _ c.run_beside.result.report _ refl added.limit added.same.0 sources c.run_beside.ensures.recorded
