use Rattle.std.proofs.Common.{rules, length, map, Some, refl, sym, ap, subst, ◌∙◌}
use Rattle.std.specs.List.{AllZip}
use Rattle.mcap_model.specs.Places.{At, Each}
use Rattle.feed_lane.specs.Lanes.{InStep}
use Rattle.buffer_swap.specs.Plays.{gathered, Unclosed}
use Rattle.recorder.specs.Lanes.{LaneRan}
use Rattle.recorder.proofs.Collecting.{partner, lent, map_map, zipped, zipped_map, lanes_ran, behind_none, closed_known, closed_made}
use Rattle.recorder.proofs.lanes.Lanes.run.Goals as goal

pub run_all-requires-after_bounds : goal.run_all-requires-after_bounds
run_all-requires-after_bounds g c κs within =
    (c.args.self.control.seat.me.0.pass.limit, λ k z at_z. c.requires.new k z (subst (λ l. At l k z) c.as_mut_slice.ensures.value at_z))

pub gather-requires-clause-turn : goal.gather-requires-clause-turn
gather-requires-clause-turn g c = λ n x at.
    let slice = c.as_mut_slice in
    let old = slice.result.now in
    let new = c.run_all.new.lanes in
    let same = lent c.args.self.lanes.len new c.args.self.lanes.items (ap length (sym slice.ensures.value) ∙ c.run_all.ensures.turns.0) (sym slice.ensures.len ∙ ap length slice.ensures.value) in
    let there : At new n x = subst (λ l. At l n x) same at in
    let (y, at_y) = partner old new n x c.run_all.ensures.turns.0 there in
    c.run_all.ensures.turns.1 n y x at_y there ∙ c.requires.turn n y (subst (λ l. At l n y) slice.ensures.value at_y)

pub gather-requires-clause-ended : goal.gather-requires-clause-ended
gather-requires-clause-ended g c = λ n x at.
    let slice = c.as_mut_slice in
    let old = slice.result.now in
    let new = c.run_all.new.lanes in
    let same = lent c.args.self.lanes.len new c.args.self.lanes.items (ap length (sym slice.ensures.value) ∙ c.run_all.ensures.turns.0) (sym slice.ensures.len ∙ ap length slice.ensures.value) in
    let there : At new n x = subst (λ l. At l n x) same at in
    let (y, at_y) = partner old new n x c.run_all.ensures.turns.0 there in
    let ran = (c.run_all.ensures.ran c.args.self.control.seat.me.0.pass.limit (λ k z at_z. c.requires.new k z (subst (λ l. At l k z) slice.ensures.value at_z))).1 n y x at_y there in
    rw ran.is (search rules)

pub returns-clause-ran : goal.returns-clause-ran
returns-clause-ran g c =
    let slice = c.as_mut_slice in
    let old = c.args.self in
    let ys = c.run_all.new.lanes in
    let limit = old.control.seat.me.0.pass.limit in
    let same = lent old.lanes.len ys old.lanes.items (ap length (sym slice.ensures.value) ∙ c.run_all.ensures.turns.0) (sym slice.ensures.len ∙ ap length slice.ensures.value) in
    let ran = c.run_all.ensures.ran limit (λ k z at_z. c.requires.new k z (subst (λ l. At l k z) slice.ensures.value at_z)) in
    let gather = c.gather.ensures in
    let state = g.S.Source.state in
    lanes_ran limit old.lossless c.args.listed (λ lane. lane.pass.lossless) (λ lane. state lane.source) (λ lane. gathered lane.pass.publisher.seat.me.0) (λ lane. lane.report)
    old.lanes.items ys (map state c.gather.new.self.feeds.items) c.gather.new.self.reports.items c.close.new.self.seat.me.0.post
    (subst (λ l. InStep (λ x y. LaneRan limit x.pass.lossless c.args.listed (state x.source) (state y.source) y.pass.publisher.seat.me.0.pass y.report) l ys) slice.ensures.value ran)
    c.requires.waits
    (subst (Each (λ lane. Unclosed lane.pass.publisher.seat.me.0.pass)) same gather.unclosed)
    (ap (map state) (behind_none (λ lane. lane.source) c.gather.new.self.feeds.items old.feeds.items _ ys gather.feeds c.requires.feeds.0 same) ∙ map_map (λ lane. lane.source) state (λ lane. state lane.source) (λ x. refl) ys)
    (behind_none (λ lane. lane.report) (map Some c.gather.new.self.reports.items) (map Some old.reports.items) _ ys gather.reports (ap (map Some) c.requires.reports.0) same)
    (closed_known c.close.ensures.closed.found.end c.gather.new.self.control.seat.me.0.post c.close.new.self.seat.me.0.post c.close.ensures.closed.closed
    ∙ behind_none (λ lane. gathered lane.pass.publisher.seat.me.0) c.gather.new.self.control.seat.me.0.post.known old.control.seat.me.0.post.known _ ys gather.known c.requires.fresh.known same)
    (closed_made c.close.ensures.closed.found.end c.gather.new.self.control.seat.me.0.post c.close.new.self.seat.me.0.post c.close.ensures.closed.closed
    ∙ gather.made ∙ c.requires.fresh.made ∙ sym slice.ensures.len ∙ ap length slice.ensures.value)

pub returns-clause-stays : goal.returns-clause-stays
returns-clause-stays g c =
    let slice = c.as_mut_slice in
    let ys = c.run_all.new.lanes in
    let stays = g.S.Source.stays in
    let same = lent c.args.self.lanes.len ys c.args.self.lanes.items (ap length (sym slice.ensures.value) ∙ c.run_all.ensures.turns.0) (sym slice.ensures.len ∙ ap length slice.ensures.value) in
    let feeds = behind_none (λ lane. lane.source) c.gather.new.self.feeds.items c.args.self.feeds.items _ ys c.gather.ensures.feeds c.requires.feeds.0 same in
    let all = subst (λ l. InStep (λ x y. stays x.source y.source) l ys) slice.ensures.value c.run_all.ensures.stays in
    subst (AllZip stays (map (λ lane. lane.source) c.args.self.lanes.items)) (sym feeds)
    (zipped_map stays (λ lane. lane.source) (λ lane. lane.source) c.args.self.lanes.items ys (zipped (λ x y. stays x.source y.source) c.args.self.lanes.items ys all))
