use Rattle.std.proofs.Common.{List, sym, subst, arith}
use Rattle.std.specs.Prelude.{take}
use Rattle.mcap_model.specs.Tops.{Top}
use Rattle.mcap_model.proofs.OneMore.{taken_more}
use Rattle.summary_read.specs.PartSteps.{cut_tops}
use Rattle.index_check.specs.Order.{OrderOf}
use Rattle.summary_check.specs.Body.{known, KnownInPlace, OpTaken}
use Rattle.summary_check.proofs.Onward.{tops_within, onward}
use Rattle.summary_check.proofs.ordering.find_misplaced.Goals as goal

pub returns-in-Ok-false : goal.returns-in-Ok-false
returns-in-Ok-false c = λ bytes.
    let (t, at, same) = c.op_at-op.ensures bytes in
    let w = c.records.invariant bytes in
    let front = take c.records.i (cut_tops bytes c.args.cuts.now) in
    (t, at, subst (OpTaken front t c.take_op.new.order) c.in-Ok-false.field-0-test (c.in-Ok-false.ensures front t w.0 same))

pub records-preserved : goal.records-preserved
records-preserved c = λ bytes.
    let body = cut_tops bytes c.args.cuts.now in
    let (t, at, same) = c.op_at-op.ensures bytes in
    let w = c.records.invariant bytes in
    let front = take c.records.i body in
    let taken = subst (OpTaken front t c.take_op.new.order) c.in-Ok-true.field-0-test (c.in-Ok-true.ensures front t w.0 same) in (
      subst (λ (l : List Top). OrderOf (known l) c.take_op.new.order) (sym (taken_more body c.records.i t at)) taken.1,
      onward (KnownInPlace body) body c.records.i t w.1 at taken.0,
    )

pub returns : goal.returns
returns c = λ bytes k t at.
    let w = c.records.invariant bytes in
    let within = tops_within bytes c.args.cuts.now k t at in
    w.1 k t at (omega (arith, within, c.records-test.false))
