use Rattle.std.proofs.Common.{sym, subst, List, ap, ◌∙◌, true, ◌≡◌, arith}
use Rattle.std.proofs.lemmas.Bool.{both_ways}
use Rattle.mcap_model.specs.Tops.{Top}
use Rattle.mcap_model.specs.Whole.{is_known}
use Rattle.index_check.specs.Order.{OrderOf}
use Rattle.summary_check.specs.Body.{known}
use Rattle.summary_check.proofs.Ordered.{is_known_op, known_more}
use Rattle.summary_check.proofs.ordering.take_op.Goals as goal

pub returns-then-not-is_in_place : goal.returns-then-not-is_in_place
returns-then-not-is_in_place c = λ before t was same right.
    let is : is_known c.args.op ≡ true = is_known_op c.args.op c.if-op-eq0.false (omega (arith, c.if-op-ge16.false)) in
    both_ways c.is_in_place.result c.if-not-is_in_place.true ((c.is_in_place.ensures (known before) t was same).1 (right (ap is_known same ∙ is)))

pub returns-in-Ok : goal.returns-in-Ok
returns-in-Ok c = λ before t was same.
    let is : is_known c.args.op ≡ true = is_known_op c.args.op c.if-op-eq0.false (omega (arith, c.if-op-ge16.false)) in (
      λ own. (c.is_in_place.ensures (known before) t was same).0 c.if-not-is_in_place.false,
      subst (λ (l : List Top). OrderOf l c.add.new.self) (sym (known_more before t c.args.op same is)) (c.in-Ok.ensures (known before) t was same),
    )
