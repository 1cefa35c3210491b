use Rattle.std.proofs.Common.{◌≡◌, length, [], ◌∷◌, Some, sym, ap, subst, ◌∙◌, append_assoc, append-nil, length-append, arith}
use Rattle.std.specs.Vec.Iter.{into_iter_items}
use Rattle.mcap_model.specs.Places.{Each}
use Rattle.buffer_swap.specs.Plays.{gathered, Unclosed}
use Rattle.recorder.proofs.Gathering.{mapped_on, each_push, nothing_left}
use Rattle.recorder.proofs.lanes.Lanes.gather.Goals as goal

pub lanes-preserved : goal.lanes-preserved
lanes-preserved g c =
    let at = c.lanes in
    let was = at.invariant in
    let x = c.in-Some.lane in
    let steps = c.in-Some.ensures.steps.0 in
    let call = c.gather_one.ensures in
    record {
      all = append_assoc at.yielded (x ∷ []) _ ∙ rw (← steps) was.all;
      left = (let left = was.left in let gone = c.in-Some.ensures.steps.1 in let short = ap length steps in omega arith);
      turn = call.turn ∙ was.turn;
      known = mapped_on (λ lane. gathered lane.pass.publisher.seat.me.0) _ _ _ at.yielded x call.known was.known;
      unclosed = each_push (λ lane. Unclosed lane.pass.publisher.seat.me.0.pass) at.yielded x was.unclosed (call.unclosed (was.closed ∙ c.requires.unclosed));
      closed = call.post.0 ∙ was.closed;
      made = call.post.1 ∙ was.made;
      feeds = mapped_on (λ lane. lane.source) _ _ _ at.yielded x call.feeds was.feeds;
      reports = mapped_on (λ lane. lane.report) _ _ _ at.yielded x call.reports was.reports;
      count = omega (arith, call.count, was.count, length-append at.yielded (x ∷ []));
      room = call.room.0 ∙ was.room;
      report_room = call.room.1 ∙ was.report_room;
    }

pub returns-clause-unclosed : goal.returns-clause-unclosed
returns-clause-unclosed g c =
    let at = c.lanes in
    let none = c.in-None.ensures.steps in
    let empty : into_iter_items at.lane-iterator ≡ [] = nothing_left _ (sym at.invariant.left ∙ none.0) in
    let all = sym (append-nil at.yielded) ∙ rw empty at at.invariant.all ∙ c.into_iter-lane-iterator.ensures.into_iter_gives.0 ∙ ap (λ (v : _). v.items) c.replace-lanes.ensures.value in
    subst (Each (λ lane. Unclosed lane.pass.publisher.seat.me.0.pass)) all at.invariant.unclosed
