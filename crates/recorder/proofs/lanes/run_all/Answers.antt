use Rattle.std.proofs.Common.{rules, ap, ◌∙◌}
use Rattle.mcap_model.proofs.Places.{at_within, at_read, at_one}
use Rattle.recorder.proofs.lanes.run_all.Goals as goal

pub returns-clause-ran : goal.returns-clause-ran
returns-clause-ran g c = λ limit new. (
  search rules,
  λ n x y at_x at_y.
      let old = c.args.lanes.now in
      let now = c.for_each_mut.new.s in
      let at = (c.for_each_mut.ensures n x (at_within old n x at_x)).1 in
      let before = at.argument_is ∙ at_one old n _ x (at_read old n x (at_within old n x at_x)) at_x in
      let after = at.left ∙ at_one now n _ y (at_read now n x (at_within now n y at_y)) at_y in
      rw before at (rw after at (at.call.1.0 limit (ap (λ lane. lane.pass.publisher.seat.me.0.pass) before ∙ new n x at_x))),
)

pub returns-clause-stays : goal.returns-clause-stays
returns-clause-stays g c = (
  search rules,
  λ n x y at_x at_y.
      let old = c.args.lanes.now in
      let now = c.for_each_mut.new.s in
      let at = (c.for_each_mut.ensures n x (at_within old n x at_x)).1 in
      let before = at.argument_is ∙ at_one old n _ x (at_read old n x (at_within old n x at_x)) at_x in
      let after = at.left ∙ at_one now n _ y (at_read now n x (at_within now n y at_y)) at_y in
      rw before at (rw after at at.call.1.1),
)
